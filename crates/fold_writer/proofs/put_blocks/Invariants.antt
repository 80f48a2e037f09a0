-- `put_blocks` meets its contract. The invariant of its loop: the folds before index `from` are written. Assumes nothing.
use Rattle.fold_writer.proofs.Laying.{Laying}
use Rattle.fold_writer.proofs.put_blocks.Given as goal

abbrev pub invariant-loop-k : goal.invariant-loop-k
invariant-loop-k l = Laying l.initial.out l.folds l.many l.out l.at l.from l.k
