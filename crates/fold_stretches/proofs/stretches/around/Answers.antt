-- `fold_stretches::stretches::around` meets its contract. The invariant of its loop: the folds before those that are left hide no row of the stretch.
-- Assumes nothing.
use Rattle.fold_stretches.proofs.Asunder.{no_fold_step, no_fold_end}
use Rattle.fold_stretches.proofs.stretches.around.Goals as goal

pub loop-fold-preserved : goal.loop-fold-preserved
loop-fold-preserved c =
    let step = c.in-Some.ensures.steps in
    no_fold_step c.loop-fold.invariant _ _ step.0 step.1.0 step.1.1 c.apart-w.ensures

pub returns : goal.returns
returns c = no_fold_end c.loop-fold.invariant c.in-None.ensures.steps.1.0
