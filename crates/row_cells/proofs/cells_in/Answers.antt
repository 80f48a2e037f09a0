-- `row_cells::cells_in` meets its contract. The invariant of its loop: `sum` is the cells of the characters before x.
-- Assumes nothing.
use Rattle.lists.proofs.Kit.{arith}
use Rattle.row_cells.proofs.Fits.{cells_next, cells_end}
use Rattle.row_cells.proofs.cells_in.Goals as goal

pub loop-x-init : goal.loop-x-init
loop-x-init c = record { inside = omega arith; small = omega arith; rest = omega arith }

pub loop-x-preserved : goal.loop-x-preserved
loop-x-preserved c =
    let cells_of_told = c.cells_of-sum.ensures in
    cells_next c.loop-x.invariant c.loop-x-test.true cells_of_told.cells cells_of_told.small

pub returns : goal.returns
returns c = cells_end c.loop-x.invariant c.loop-x-test.false
