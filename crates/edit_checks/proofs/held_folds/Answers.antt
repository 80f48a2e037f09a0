use Rattle.lists.proofs.Kit.{sym, arith, length-take-le, lt-ltb, le-ltb}
use Rattle.edit_checks.specs.Refusals.{held_folds}
use Rattle.edit_checks.proofs.held_folds.Goals as goal

pub returns-then-count-folds : goal.returns-then-count-folds
unfolding held_folds
returns-then-count-folds c = rw (lt-ltb _ _ c.if-count-folds.true)

pub slice_bounds-fold_refusal-end : goal.slice_bounds-fold_refusal-end
slice_bounds-fold_refusal-end c = sym (length-take-le _ _ (omega (arith, c.if-count-folds.false)))

pub returns : goal.returns
unfolding held_folds
returns c = rw (le-ltb _ _ c.if-count-folds.false) c.fold_refusal.ensures
