-- `row_cells::fitting` meets its contract. The invariant of its loop: the characters before i go into the room and leave `left` cells.
-- Assumes nothing.
use Rattle.lists.proofs.Kit.{arith}
use Rattle.row_cells.proofs.Fits.{fits_next, fits_here, fits_end}
use Rattle.row_cells.proofs.fitting.Goals as goal

pub loop-i-init : goal.loop-i-init
loop-i-init c = record { inside = omega arith; rest = omega arith }

pub returns-then-cells-left : goal.returns-then-cells-left
returns-then-cells-left c =
    let is = fits_here c.loop-i.invariant c.loop-i-test.true c.cells_of-cells.ensures.cells c.if-cells-left.true in
    record { count = is; inside = omega arith }

pub loop-i-preserved : goal.loop-i-preserved
loop-i-preserved c =
    fits_next c.loop-i.invariant c.loop-i-test.true c.cells_of-cells.ensures.cells c.if-cells-left.false

pub returns : goal.returns
returns c = record { count = fits_end c.loop-i.invariant c.loop-i-test.false; inside = omega arith }
