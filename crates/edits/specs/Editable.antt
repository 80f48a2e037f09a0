-- What the checks of an edit leave known, and what the edit itself leaves. Definitions only. Assumes nothing.
use Rattle.std.specs.Prelude.{ℕ, ◌+◌, ◌-◌, ◌*◌, ◌≤◌, ◌≡◌, List, length, take}
use Rattle.text.specs.Text.{row_count}
use Rattle.text.specs.Offsets.{At}
use Rattle.text.specs.declared.Position.{Position}
use Rattle.folds.specs.Folds.{fold_refusal}
use Rattle.motions.specs.declared.Caret.{Caret}
use Rattle.motions.specs.Carets.{here}
use Rattle.edit_places.specs.Replaced.{refilled}
use Rattle.edit_folds.specs.Folds.{Raises}
use Rattle.edit_positions.specs.After.{offset_of}
use Rattle.edit_positions.specs.Change.{end_of, Near}
use Rattle.edit_checks.specs.declared.Checked.{Checked}
use Rattle.edit_checks.specs.declared.Sizes.{Sizes}
use Rattle.edit_carets.specs.Carets.{Fits}
use Rattle.edits.specs.declared.Left.{Left}
use Rattle.edits.specs.Edits.{new_text, new_folds, left_of}

-- the position x of the text t, which stands in it
abbrev pub StandsIn : List ℕ → Position → Type 0
StandsIn t x = At t x.row x.col (offset_of t x)

-- nothing refuses the edit, and `at` are the offsets of its stretch and the rows of the text; from `first_near` on most follows from what stands before
pub record Editable (buf folds : List ℕ) (s : Sizes) (at : Checked) (p q : Position) (c : List ℕ) (k : Caret) : Type 0 where
  pub fits : s.len ≤ length buf
  pub brief : s.len ≤ 1048576
  pub points_brief : length c ≤ 1048576
  pub from_is : at.from ≡ offset_of (take s.len buf) p
  pub to_is : at.to ≡ offset_of (take s.len buf) q
  pub rows_is : at.rows ≡ row_count (take s.len buf)
  pub order : offset_of (take s.len buf) p ≤ offset_of (take s.len buf) q
  pub first : StandsIn (take s.len buf) p
  pub second : StandsIn (take s.len buf) q
  pub caret : StandsIn (take s.len buf) (here k)
  pub room : length (new_text buf s p q c) ≤ length buf
  pub new_brief : length (new_text buf s p q c) ≤ 1048576
  pub folds_fit : 3 * s.count ≤ length folds
  pub first_near : Near p
  pub second_row : q.row ≤ 1048576
  pub rows_order : p.row ≤ q.row
  pub stretch_order : at.from ≤ at.to
  pub stretch_within : at.to ≤ s.len
  pub new_fits : s.len - (at.to - at.from) + length c ≤ length buf
  pub raises : Raises folds (3 * s.count) (row_count c - 1)
  pub follows : Fits k (record { from = p; to = q; end = end_of p c })
  pub folds_good : fold_refusal (take (3 * s.count) folds) (row_count (take s.len buf)) ≡ 0

pub record MakesTo (buf fold : List ℕ) (s : Sizes) (p q : Position) (c : List ℕ) (k : Caret) (r : Left) (buf' folds' : List ℕ) : Type 0 where
  pub answer : r ≡ left_of buf fold s p q c k
  pub text : buf' ≡ refilled buf s.len (new_text buf s p q c)
  pub folds : folds' ≡ refilled fold (3 * s.count) (new_folds fold s p q c)
