-- What document 02, #102 asks of edits beyond their answers. From an edit that no check refuses a host can go on without a check of its own; and a
-- delete of what an insert put in gives the text, its folds and a caret's position back. Definitions only. Assumes nothing.
use Rattle.std.specs.Prelude.{ℕ, ◌*◌, ◌/◌, ◌≤◌, ◌<◌, ◌≡◌, List, [], ◌∷◌, ◌++◌, cond, length, get_or, take}
use Rattle.text_check.specs.Accept.{text_refusal}
use Rattle.text.specs.Text.{row_count}
use Rattle.text.specs.declared.Position.{Position}
use Rattle.folds.specs.Folds.{fold_refusal}
use Rattle.positions.specs.Positions.{position_refusal}
use Rattle.motions.specs.declared.Caret.{Caret}
use Rattle.motions.specs.Carets.{here}
use Rattle.edit_places.specs.Replaced.{refilled}
use Rattle.edit_folds.specs.Folds.{is_lost, kept_folds}
use Rattle.edit_positions.specs.After.{offset_of, text_after, offset_after, position_after}
use Rattle.edit_positions.specs.Change.{end_of}
use Rattle.edit_checks.specs.declared.Sizes.{Sizes}
use Rattle.edit_carets.specs.Carets.{caret_after}
use Rattle.edits.specs.Edits.{new_text, new_folds, folds_after}

-- a text, its folds and a position that no call refuses with 1 to 5
pub record Accepted (t folds : List ℕ) (x : Position) : Type 0 where
  pub text_good : text_refusal t ≡ 0
  pub folds_good : fold_refusal folds (row_count t) ≡ 0
  pub inside : position_refusal t x ≡ 0

-- what an accepted edit leaves is accepted, and the buffers hold it in their first places
pub record Sound (buf fold : List ℕ) (s : Sizes) (p q : Position) (c : List ℕ) (k : Caret) : Type 0 where
  pub accepted : Accepted (new_text buf s p q c) (new_folds fold s p q c) (here (caret_after (take s.len buf) p q c k))
  pub text_held : take (length (new_text buf s p q c)) (refilled buf s.len (new_text buf s p q c)) ≡ new_text buf s p q c
  pub folds_held : take (3 * (length (new_folds fold s p q c) / 3)) (refilled fold (3 * s.count) (new_folds fold s p q c)) ≡ new_folds fold s p q c

-- c inserted at p, and then what stands from p up to its end deleted
pub record TakenBack (t folds : List ℕ) (p : Position) (c : List ℕ) (x : Position) : Type 0 where
  pub text_back : text_after (text_after t p p c) p (end_of p c) [] ≡ t
  pub folds_back : folds_after p (end_of p c) [] (folds_after p p c folds) ≡ folds
  pub caret_back : position_after (text_after t p p c) p (end_of p c) [] (position_after t p p c x) ≡ x

-- a character before the stretch or behind it stands where its offset goes: so a caret's character stays under it
pub record CharactersStay (t : List ℕ) (p q : Position) (c : List ℕ) : Type 0 where
  pub before : (x : ℕ) → x < offset_of t p → get_or (text_after t p q c) (offset_after (offset_of t p) (offset_of t q) (length c) x) 0 ≡ get_or t x 0
  pub behind : (x : ℕ) → offset_of t q ≤ x → get_or (text_after t p q c) (offset_after (offset_of t p) (offset_of t q) (length c) x) 0 ≡ get_or t x 0

-- folds keep their order, each by itself, and each its mark
pub record FoldsInOrder (f : ℕ → ℕ) : Type 0 where
  pub apart : (l m : List ℕ) (n : ℕ) → length l ≡ 3 * n → kept_folds f (l ++ m) ≡ kept_folds f l ++ kept_folds f m
  pub alone : (s e closed : ℕ) → kept_folds f (s ∷ e ∷ closed ∷ []) ≡ cond (is_lost s e (f s) (f e)) [] (f s ∷ f e ∷ closed ∷ [])
