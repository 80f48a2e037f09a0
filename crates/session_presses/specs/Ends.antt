-- After `$`, `j` and `k` follow the ends of the rows. Document 02, #104.
-- Definitions only; the proof is in `proofs/Following.antt`. Assumes nothing.
use Rattle.std.specs.Prelude.{ℕ, ◌≡◌, List, [], ◌∷◌, Bool, true, false, Some}
use Rattle.lists.specs.Codes.{codes}
use Rattle.text.specs.Text.{last_col}
use Rattle.motions.specs.declared.Caret.{Caret}
use Rattle.motions.specs.declared.Moved.TheVariants.{To}
use Rattle.motions.specs.Carets.{caret_after}
use Rattle.session_presses.specs.Pressed.{past_ends, pressed}

-- the caret stands on the last character of its row, or in column 0 of an empty one, and aims past the end of every row
pub record AtEnd (t : List ℕ) (k : Caret) : Type 0 where
  pub on_last : k.col ≡ last_col t k.row
  pub aims_past : k.sticky ≡ Some past_ends

-- `j` or `k` with a count
pub record Stroke : Type 0 where
  pub down : Bool
  pub count : ℕ

abbrev pub name_of : Bool → List ℕ
name_of true = codes "j"
name_of false = codes "k"

-- the caret after a run of them; a refused one leaves it as it was
unfoldable pub after_run : List ℕ → List Stroke → Caret → Caret
after_run t [] k = k
after_run t (s ∷ rest) k = after_run t rest (caret_after k (pressed (name_of s.down) t s.count k))

-- `$` leads to the row's end, and every run of `j` and `k` from there to the end of each row that it comes to
pub record FollowsEnds : Type 0 where
  pub dollar : (t : List ℕ) (n : ℕ) (k c : Caret) → pressed (codes "$") t n k ≡ To c → AtEnd t c
  pub strokes : (t : List ℕ) (run : List Stroke) (k : Caret) → AtEnd t k → AtEnd t (after_run t run k)
