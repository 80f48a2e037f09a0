-- `words::once::has_high` meets its contract. The invariant of its loop: what was found, or will be. Assumes nothing.
use Rattle.words.proofs.Letters.{Looked}
use Rattle.words.proofs.once.has_high.Given as goal

abbrev pub invariant-loop-x : goal.invariant-loop-x
invariant-loop-x l = Looked l.t l.high l.x-index
