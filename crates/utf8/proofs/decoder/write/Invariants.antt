-- `decoder::write` meets its contract. The invariant of its loop: the code points before i are written. The measure is the length less i.
-- Assumes nothing.
use Rattle.lists.proofs.Kit.{◌-◌, length}
use Rattle.utf8.proofs.Written.{Going}
use Rattle.utf8.proofs.decoder.write.Given as goal

abbrev pub invariant-loop-i : goal.invariant-loop-i
invariant-loop-i l = Going l.bytes l.initial.points 0 l.i l.n l.points

abbrev pub decreases-loop-i : goal.decreases-loop-i
decreases-loop-i l = length l.bytes - l.i
