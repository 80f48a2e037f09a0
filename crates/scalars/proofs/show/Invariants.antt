-- `scalars::show` is safe and ends. The invariant of its loop: no more code points are counted than were asked about. Assumes nothing.
use Rattle.lists.proofs.Kit.{◌≤◌}
use Rattle.scalars.proofs.show.Given as goal

abbrev pub invariant-loop-x : goal.invariant-loop-x
invariant-loop-x g l = l.total ≤ l.x
