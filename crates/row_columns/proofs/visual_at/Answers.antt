-- `row_columns::visual_at` meets its contract. The invariant of its loop: `visual` is the visual column of character i, and i has not passed `col`.
-- Assumes nothing.
use Rattle.lists.proofs.Kit.{arith}
use Rattle.row_columns.proofs.Visual.{visual_start, visual_on, visual_stop, visual_end}
use Rattle.row_columns.proofs.visual_at.Goals as goal

pub loop-i-init : goal.loop-i-init
loop-i-init c = record { so_far = visual_start _ _ _; before = omega arith }

pub returns-then-i-col : goal.returns-then-i-col
returns-then-i-col c = visual_stop c.loop-i.invariant.so_far _ c.if-i-col.true

pub loop-i-preserved : goal.loop-i-preserved
loop-i-preserved c =
    let cell_width_told = c.cell_width-visual.ensures in
    record {
      so_far = visual_on c.loop-i.invariant.so_far c.loop-i-test.true cell_width_told.cells cell_width_told.small;
      before = omega arith;
    }

pub returns : goal.returns
returns c = visual_end c.loop-i.invariant.so_far _ c.loop-i-test.false c.loop-i.invariant.before
