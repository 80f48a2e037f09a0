-- `visible_rows::rows::free_rows` meets its contract. The invariant of its loop: the folds before those that are left hide none of the next `free` rows.
-- Assumes nothing.
use Rattle.std.specs.Slice.Iter.{chunks_exact_rest, chunks_exact_size}
use Rattle.visible_rows.proofs.Free.{FreeTo}
use Rattle.visible_rows.proofs.rows.free_rows.Given as goal

abbrev pub invariant-loop-fold : goal.invariant-loop-fold
invariant-loop-fold l = FreeTo l.folds l.rows l.down l.row l.free (chunks_exact_size l.fold-iterator) (chunks_exact_rest l.fold-iterator)
