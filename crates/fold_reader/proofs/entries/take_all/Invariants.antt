-- `entries::take_all` meets its contract. The invariant of its loop: the folds of the blocks that are left are still to be taken. Assumes nothing.
use Rattle.std.specs.Slice.Iter.{chunks_exact_rest, chunks_exact_size}
use Rattle.fold_reader.proofs.Takes.{Taking}
use Rattle.fold_reader.proofs.entries.take_all.Given as goal

abbrev pub invariant-loop-block : goal.invariant-loop-block
invariant-loop-block l = Taking l.file l.initial.out l.out l.next (chunks_exact_size l.block-iterator) (chunks_exact_rest l.block-iterator)
