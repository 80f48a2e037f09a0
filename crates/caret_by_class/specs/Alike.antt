-- The second engine beside the first: what document 02, #113 asks of the two calls. The proof is `alike` in `proofs/Alike.antt`.
-- Definitions only. Assumes nothing.
use Rattle.std.specs.Prelude.{ℕ, ◌≤◌, ◌<◌, ◌≡◌, List, Bool, length}
use Rattle.word_rounds.specs.declared.Motion.{Motion}
use Rattle.motions.specs.declared.Caret.{Caret}
use Rattle.motions.specs.declared.Moved.TheVariants.{Refused}
use Rattle.motions.specs.WordMoves.{word_refusal, move_word}
use Rattle.caret_by_class.specs.ByClass.{move_by_class}

-- the same answer where the slice has the places; the first engine's refusal, if it has one, with any slice; and else 14 where the slice is too short
pub record Alike (t folds list : List ℕ) (big : Bool) (m : Motion) (stop : Bool) (n : ℕ) (k : Caret) (room : List ℕ) : Type 0 where
  pub equal : length t < length room → move_by_class t folds list big m stop n k room ≡ move_word t folds list big m stop n k
  pub refused : (word_refusal t folds list k ≡ 0 → ⊥) → move_by_class t folds list big m stop n k room ≡ Refused (word_refusal t folds list k)
  pub short : word_refusal t folds list k ≡ 0 → length room ≤ length t → move_by_class t folds list big m stop n k room ≡ Refused 14
