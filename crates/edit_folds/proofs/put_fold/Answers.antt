use Rattle.lists.proofs.Kit.{arith, length-set, rules}
use Rattle.edit_folds.proofs.Mapped.{over_three}
use Rattle.edit_folds.proofs.put_fold.Goals as goal

pub bounds-folds-at-2 : goal.bounds-folds-at-2
bounds-folds-at-2 c = simp length-set (omega arith)

pub bounds-folds-at-3 : goal.bounds-folds-at-3
bounds-folds-at-3 c = simp length-set (omega arith)

pub returns : goal.returns
returns c = search (rules, over_three)
