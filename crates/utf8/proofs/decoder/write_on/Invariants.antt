-- `decoder::write_on` meets its contract. The invariant of its loop: the code points before i are written. The measure is what is left up to
-- `until`. Assumes nothing.
use Rattle.lists.proofs.Kit.{◌-◌}
use Rattle.utf8.proofs.Written.{Going}
use Rattle.utf8.proofs.decoder.write_on.Given as goal

abbrev pub invariant-loop-i : goal.invariant-loop-i
invariant-loop-i l = Going l.bytes l.initial.points l.count l.i l.n l.points

abbrev pub decreases-loop-i : goal.decreases-loop-i
decreases-loop-i l = l.until - l.i
