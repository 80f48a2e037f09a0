-- `decoder::plain` meets its contract. The invariant of its loop: what was found, or will be. Assumes nothing.
use Rattle.lists.proofs.Any.{Finds}
use Rattle.utf8.specs.Encoding.{is_above}
use Rattle.utf8.proofs.decoder.plain.Given as goal

abbrev pub invariant-loop-b : goal.invariant-loop-b
invariant-loop-b l = Finds is_above l.bytes l.above l.b-index
