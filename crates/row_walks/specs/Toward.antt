-- One row on or back. In the code a row is signed and the direction +1 or -1: at the top edge the row comes to stand at minus one.
-- From document 01, "What form to use where". Definitions only; the laws are in `proofs/Ways.antt`. Assumes nothing.
use Rattle.std.specs.Prelude.{ℕ, ◌+◌, ◌-◌, ◌<◌, List, Bool, cond, ℤ, pos, negsuc}
use Rattle.text.specs.Text.{row_count}
use Rattle.text.specs.Offsets.{IsLine}
use Rattle.text.specs.declared.Line.{Line}

abbrev pub dir_of : Bool → ℤ
dir_of fwd = cond fwd (pos 1) (negsuc 0)

-- how many rows are left in the direction, down to the row `last` or up to row 0, and the next of them
abbrev pub rows_left : Bool → ℕ → ℕ → ℕ
rows_left fwd last row = cond fwd (last - row) row

abbrev pub onward : Bool → ℕ → ℕ
onward fwd row = cond fwd (row + 1) (row - 1)

-- what the step to the row beside a row requires: the text has that row
pub record StepReady (t : List ℕ) (fwd : Bool) (l : Line) : Type 0 where
  pub line : IsLine t l
  pub in_rows : onward fwd l.row < row_count t
