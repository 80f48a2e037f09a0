-- `row_wrap::breaks::write_segments` meets its contract. The invariant of its loop: the first `at` numbers of the
-- segments stand in the room, and the next segment begins at `start`. The measure is the row's length less `start`. Assumes nothing.
use Rattle.lists.proofs.Kit.{arith}
use Rattle.row_wrap.proofs.Room.{filled_start, filled_two_lem, filled_end}
use Rattle.row_wrap.proofs.Walk.{walk_start, walk_next, walk_end}
use Rattle.row_wrap.proofs.breaks.write_segments.Goals as goal

pub loop-start-init : goal.loop-start-init
loop-start-init c = record { walk = walk_start _ _ _ _ _; filled = filled_start _ _ }

pub put_segment-requires : goal.put_segment-requires
put_segment-requires c =
    let invariant = c.loop-start.invariant in
    let by_walk_next = walk_next invariant.walk c.loop-start-test.true c.first_segment.ensures.count in
    (omega (arith, by_walk_next.there, invariant.filled.size), (omega arith, omega (arith, by_walk_next.onward.inside)))

pub loop-start-preserved : goal.loop-start-preserved
loop-start-preserved c =
    let invariant = c.loop-start.invariant in
    let by_walk_next = walk_next invariant.walk c.loop-start-test.true c.first_segment.ensures.count in
    let fit = c.requires.fits in
    record {
      walk = by_walk_next.onward;
      filled = rw c.put_segment.ensures
          (filled_two_lem invariant.filled by_walk_next.there fit by_walk_next.first by_walk_next.second);
    }

pub returns : goal.returns
returns c = filled_end c.loop-start.invariant.filled (walk_end c.loop-start.invariant.walk c.loop-start-test.false)
