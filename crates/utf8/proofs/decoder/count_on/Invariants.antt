-- `decoder::count_on` meets its contract. The invariant of its loop: the code points before i are counted. The measure is what is left up to
-- `until`. Assumes nothing.
use Rattle.lists.proofs.Kit.{◌-◌}
use Rattle.utf8.specs.Walks.{Counts}
use Rattle.utf8.proofs.decoder.count_on.Given as goal

abbrev pub invariant-loop-i : goal.invariant-loop-i
invariant-loop-i l = Counts l.bytes l.i l.n

abbrev pub decreases-loop-i : goal.decreases-loop-i
decreases-loop-i l = l.until - l.i
