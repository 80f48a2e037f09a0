-- `layout::used` meets its contract. The invariant of its loop: what was found, or is to come. Assumes nothing.
use Rattle.lists.proofs.Any.{Finds}
use Rattle.fold_blocks.specs.Layout.{is_used}
use Rattle.fold_reader.proofs.layout.used.Given as goal

abbrev pub invariant-loop-x : goal.invariant-loop-x
invariant-loop-x l = Finds is_used l.bytes l.found l.x-index
