-- `put::put_at` meets its contract. The invariant of its loop: the first k points are written. The measure is their number less k.
-- Assumes nothing.
use Rattle.lists.proofs.Kit.{refl, ◌-◌}
use Rattle.edit_places.proofs.Puts.{up_none, up_next, up_all}
use Rattle.edit_places.proofs.put.put_at.Goals as goal

pub loop-k-init : goal.loop-k-init
loop-k-init c = up_none _ _ _ c.requires

pub loop-k-preserved : goal.loop-k-preserved
loop-k-preserved c = up_next c.loop-k.invariant c.loop-k-test.true refl

pub returns : goal.returns
returns c = up_all c.loop-k.invariant c.loop-k-test.false
