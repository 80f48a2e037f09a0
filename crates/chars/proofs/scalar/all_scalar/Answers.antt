-- `chars::all_scalar` meets its contract. The invariant of its loop: what was found, or will be. Assumes nothing.
use Rattle.lists.proofs.Kit.{ap, not}
use Rattle.lists.proofs.Any.{finds_start, finds_on, finds_end}
use Rattle.chars.proofs.scalar.all_scalar.Goals as goal

pub loop-x-preserved : goal.loop-x-preserved
loop-x-preserved c = finds_on c.loop-x.invariant c.loop-x-test.true

pub returns : goal.returns
returns c = ap not (finds_end c.loop-x.invariant c.loop-x-test.false)

pub loop-x-init : goal.loop-x-init
loop-x-init c = finds_start _ _
