-- `fold_file` meets its contract, by the operation. Assumes nothing.
use Rattle.lists.proofs.Kit.{eq-eqb, ne_eqb}
use Rattle.replay_fold_file.specs.FoldFiles.{file_verdict}
use Rattle.replay_fold_file.proofs.fold_file.Goals as goal

pub returns-then-k-eq0 : goal.returns-then-k-eq0
unfolding file_verdict
returns-then-k-eq0 c = rw (eq-eqb _ 0 c.if-k-eq0.true) c.folds_write.ensures

pub returns : goal.returns
unfolding file_verdict
returns c = rw (ne_eqb _ 0 c.if-k-eq0.false) c.folds_read.ensures
