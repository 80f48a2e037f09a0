-- `decoder::plain` meets its contract. The invariant of its loop: what was found, or will be. Assumes nothing.
use Rattle.lists.proofs.Kit.{ap, not}
use Rattle.lists.proofs.Any.{finds_start, finds_on, finds_end}
use Rattle.utf8.proofs.decoder.plain.Goals as goal

pub loop-b-preserved : goal.loop-b-preserved
loop-b-preserved c = finds_on c.loop-b.invariant c.loop-b-test.true

pub returns : goal.returns
returns c = ap not (finds_end c.loop-b.invariant c.loop-b-test.false)

pub loop-b-init : goal.loop-b-init
loop-b-init c = finds_start _ _
