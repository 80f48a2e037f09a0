-- `margins::solid` meets its contract. The invariant of its loop: from b on all is white space. Assumes nothing.
use Rattle.margins.proofs.Edging.{SolidTo}
use Rattle.margins.proofs.solid.Given as goal

abbrev pub invariant-loop-b : goal.invariant-loop-b
invariant-loop-b l = SolidTo l.row l.b
