-- `visible_rows::rows::free_rows` meets its contract. The invariant of its loop: the folds before those that are left hide none of the next `free` rows.
-- Assumes nothing.
use Rattle.visible_rows.proofs.Free.{free_step, free_end}
use Rattle.visible_rows.proofs.rows.free_rows.Goals as goal

pub loop-fold-preserved : goal.loop-fold-preserved
loop-fold-preserved c =
    let step = c.in-Some.ensures.steps in
    free_step c.loop-fold.invariant _ _ step.0 step.1.0 step.1.1 c.clear_of-free.ensures

pub returns : goal.returns
returns c = free_end c.loop-fold.invariant c.in-None.ensures.steps.1.0
