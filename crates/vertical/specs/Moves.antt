-- `j` and `k`: where `move_vertical` of motions.rs leads to, over any width function w. Definitions only; the laws are in `proofs/Landed.antt` and
-- `proofs/Inside.antt`. Assumes nothing.
use Rattle.std.specs.Prelude.{ℕ, ◌+◌, ◌≤◌, ◌<◌, min, ◌≡◌, List, cond, eqb, ℤ, neg_ℤ, length, Option, Some, None}
use Rattle.chars.specs.declared.Measure.{Measure}
use Rattle.std.specs.Int.{w64}
use Rattle.std.proofs.Common.{SFits}
use Rattle.chars.specs.Width.{Measures}
use Rattle.row_columns.specs.Columns.{cursor_col, char_col}
use Rattle.text.specs.Text.{row_count, row_at, last_col}
use Rattle.text.specs.Offsets.{Stands, IsLine}
use Rattle.folds.specs.Folds.{fold_refusal}
use Rattle.text.specs.declared.Line.{Line}
use Rattle.vertical.specs.declared.Target.{Target}
use Rattle.visible_rows.specs.Visible.{vertical_row}

-- the visual column to aim for: the sticky one, or else where the cursor is drawn
abbrev pub wanted_col : (ℕ → ℕ) → List ℕ → ℕ → ℕ → ℕ → Option ℕ → ℕ
wanted_col w t tabstop row col None = cursor_col w tabstop (row_at t row) col
wanted_col w t tabstop row col (Some want) = want

-- the character of a row at a visual column, and no further than the row's last
abbrev pub aimed_col : (ℕ → ℕ) → List ℕ → ℕ → ℕ → ℕ → ℕ
aimed_col w t tabstop want row = min (char_col w tabstop (row_at t row) want) (last_col t row)

-- the place with its sticky column: it is set even where the row stays, and then so does the column
unfoldable pub landed : (ℕ → ℕ) → List ℕ → ℕ → ℕ → ℕ → ℕ → ℕ → Target
landed w t tabstop want row col target =
    record { row = target; col = cond (eqb target row) col (aimed_col w t tabstop want target); want = want }

abbrev pub move_vertical : (ℕ → ℕ) → List ℕ → List ℕ → ℕ → ℤ → ℕ → ℕ → Option ℕ → Target
move_vertical w t folds tabstop delta row col sticky =
    landed w t tabstop (wanted_col w t tabstop row col sticky) row col (vertical_row folds (row_count t) delta row)

-- what the checks of a call have shown of a row and a tabstop, and of all that a vertical motion takes
pub record AcceptedRow (t : List ℕ) (row tabstop : ℕ) : Type 0 where
  pub brief : length t ≤ 1048576
  pub in_rows : row < row_count t
  pub stop : tabstop ≤ 1000

pub record Accepted (t folds : List ℕ) (l : Line) (col tabstop : ℕ) : Type 0 where
  pub row_good : AcceptedRow t l.row tabstop
  pub here : Stands t l.row l.start (l.start + col)
  pub line : IsLine t l
  pub folds_good : fold_refusal folds (row_count t) ≡ 0

-- the same with the tables of widths that are lent, and with the count of rows
pub record AcceptedBy (m : Measure) (t folds : List ℕ) (l : Line) (col tabstop : ℕ) : Type 0 where
  pub widths : Measures m
  pub place : Accepted t folds l col tabstop

pub record Ready (m : Measure) (t folds : List ℕ) (rows : ℕ) (l : Line) (col tabstop : ℕ) : Type 0 where
  pub accepted : AcceptedBy m t folds l col tabstop
  pub all_rows : rows ≡ row_count t

-- and with a delta whose negative fits in 64 bits, too
pub record ReadyBy (m : Measure) (t folds : List ℕ) (rows : ℕ) (l : Line) (col tabstop : ℕ) (delta : ℤ) : Type 0 where
  pub ready : Ready m t folds rows l col tabstop
  pub turns : SFits w64 (neg_ℤ delta)

-- what the search for a column of a row requires, from a row with its start
pub record Aims (m : Measure) (t : List ℕ) (rows : ℕ) (from : Line) (row tabstop : ℕ) : Type 0 where
  pub widths : Measures m
  pub row_good : AcceptedRow t row tabstop
  pub line : IsLine t from
  pub all_rows : rows ≡ row_count t
