-- `put::put_at` meets its contract. The invariant of its loop: the first k points are written. The measure is their number less k.
-- Assumes nothing.
use Rattle.lists.proofs.Kit.{◌-◌, length}
use Rattle.edit_places.proofs.Puts.{Up}
use Rattle.edit_places.proofs.put.put_at.Given as goal

abbrev pub invariant-loop-k : goal.invariant-loop-k
invariant-loop-k l = Up l.initial.buf l.at l.points l.k l.buf

abbrev pub decreases-loop-k : goal.decreases-loop-k
decreases-loop-k l = length l.points - l.k
