-- What the checks of an edit find out: its refusal, or the offsets of the stretch and the rows of the text. Definitions only. Assumes nothing.
use Rattle.std.specs.Prelude.{ℕ, ◌≤◌, ◌≡◌, List, cond, length, take, eqb, Option, Some, None}
use Rattle.text.specs.Text.{row_count}
use Rattle.text.specs.Offsets.{line_at, IsLine}
use Rattle.text.specs.declared.Line.{Line}
use Rattle.text.specs.declared.Position.{Position}
use Rattle.positions.specs.Positions.{is_inside}
use Rattle.edit_positions.specs.After.{offset_of}
use Rattle.edit_checks.specs.declared.Checked.{Checked}
use Rattle.edit_checks.specs.declared.Sizes.{Sizes}
use Rattle.edit_checks.specs.Refusals.{stretch_refusal, edit_refusal}

unfoldable pub spot_of : List ℕ → Position → Option Line
spot_of t p = cond (is_inside t p) (Some (line_at t p.row)) None

-- what the search for a position requires: a row to go from, in a text of so many rows
pub record SoughtFrom (t : List ℕ) (rows : ℕ) (from : Line) : Type 0 where
  pub line : IsLine t from
  pub rows_are : rows ≡ row_count t

-- what the check of a stretch requires: a text of so many rows that is not too long
pub record RowsOf (t : List ℕ) (rows : ℕ) : Type 0 where
  pub rows_are : rows ≡ row_count t
  pub brief : length t ≤ 1048576

abbrev pub refused_by : ℕ → Checked
refused_by f = record { refusal = f; from = 0; to = 0; rows = 0 }

unfoldable pub checked_by : ℕ → List ℕ → Position → Position → Checked
checked_by f t p q = cond (eqb f 0) (record { refusal = 0; from = offset_of t p; to = offset_of t q; rows = row_count t }) (refused_by f)

abbrev pub stretch_of : List ℕ → Position → Position → Checked
stretch_of t p q = checked_by (stretch_refusal t p q) t p q

abbrev pub check_of : List ℕ → List ℕ → Sizes → Position → Position → List ℕ → Position → Checked
check_of buf folds s p q c k = checked_by (edit_refusal buf folds s p q c k) (take s.len buf) p q
