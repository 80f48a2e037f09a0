-- `encoder::write` meets its contract. The invariant of its loop: what is written, with what is left of the text, comes to the whole. Assumes nothing.
use Rattle.utf8.proofs.Puts.{Laying}
use Rattle.utf8.proofs.encoder.write.Given as goal

abbrev pub invariant-loop-x : goal.invariant-loop-x
invariant-loop-x l = Laying l.points l.initial.bytes l.at l.x-index l.bytes
