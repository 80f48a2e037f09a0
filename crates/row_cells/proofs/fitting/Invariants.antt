-- `row_cells::fitting` meets its contract. The invariant of its loop: the characters before i go into the room and leave `left` cells.
-- Assumes nothing.
use Rattle.chars.specs.Width.{width_with}
use Rattle.row_cells.proofs.Fits.{FitsTo}
use Rattle.row_cells.proofs.fitting.Given as goal

abbrev pub invariant-loop-i : goal.invariant-loop-i
invariant-loop-i l = FitsTo (width_with l.by) l.room l.row l.i l.left
