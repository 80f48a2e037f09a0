-- `decoder::check` meets its contract. The invariant of its loop: the code points before i are counted. The measure is the length less i.
-- Assumes nothing.
use Rattle.lists.proofs.Kit.{◌-◌, length}
use Rattle.utf8.specs.Walks.{Counts}
use Rattle.utf8.proofs.decoder.check.Given as goal

abbrev pub invariant-loop-i : goal.invariant-loop-i
invariant-loop-i l = Counts l.bytes l.i l.n

abbrev pub decreases-loop-i : goal.decreases-loop-i
decreases-loop-i l = length l.bytes - l.i
