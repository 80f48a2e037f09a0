-- `fold_stretches::stretches::around` meets its contract. The invariant of its loop: the folds before those that are left hide no row of the stretch.
-- Assumes nothing.
use Rattle.std.specs.Slice.Iter.{chunks_exact_rest, chunks_exact_size}
use Rattle.fold_stretches.proofs.Asunder.{NoFoldTo}
use Rattle.fold_stretches.proofs.stretches.around.Given as goal

abbrev pub invariant-loop-fold : goal.invariant-loop-fold
invariant-loop-fold l = NoFoldTo l.folds l.w (chunks_exact_size l.fold-iterator) (chunks_exact_rest l.fold-iterator)
