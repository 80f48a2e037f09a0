-- `chars::all_scalar` meets its contract. The invariant of its loop: what was found, or will be. Assumes nothing.
use Rattle.chars.specs.Scalar.{not_scalar}
use Rattle.lists.proofs.Any.{Finds}
use Rattle.chars.proofs.scalar.all_scalar.Given as goal

abbrev pub invariant-loop-x : goal.invariant-loop-x
invariant-loop-x l = Finds not_scalar l.l l.wrong l.x-index
