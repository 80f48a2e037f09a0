-- `ranges::up_to_end` meets its contract. The invariant of its loop: the numbers before `low` are at most x, those from `high` on are
-- above it. The measure is what lies between. Assumes nothing.
use Rattle.lists.proofs.Kit.{◌-◌}
use Rattle.ranges.proofs.Search.{Search}
use Rattle.ranges.proofs.up_to_end.Given as goal

abbrev pub invariant-loop-low : goal.invariant-loop-low
invariant-loop-low l = Search l.table l.x l.low l.high

abbrev pub decreases-loop-low : goal.decreases-loop-low
decreases-loop-low l = l.high - l.low
