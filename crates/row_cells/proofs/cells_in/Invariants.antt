-- `row_cells::cells_in` meets its contract. The invariant of its loop: `sum` is the cells of the characters before x.
-- Assumes nothing.
use Rattle.chars.specs.Width.{width_with}
use Rattle.row_cells.proofs.Fits.{CellsTo}
use Rattle.row_cells.proofs.cells_in.Given as goal

abbrev pub invariant-loop-x : goal.invariant-loop-x
invariant-loop-x l = CellsTo (width_with l.by) l.row l.x-index l.sum
