-- `tallies::tally_of` meets its contract. The invariant of its loop, `Tallying`: the rows before `at` are counted. The measure is the length
-- less `at`. Assumes nothing.
use Rattle.lists.proofs.Kit.{◌-◌, length}
use Rattle.replay.proofs.Counting.{Tallying}
use Rattle.replay.proofs.tallies.tally_of.Given as goal

abbrev pub invariant-loop-at : goal.invariant-loop-at
invariant-loop-at l = Tallying l.bytes l.room l.t l.at

abbrev pub decreases-loop-at : goal.decreases-loop-at
decreases-loop-at l = length l.bytes - l.at
