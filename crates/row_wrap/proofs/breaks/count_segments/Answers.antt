-- `row_wrap::breaks::count_segments` meets its contract. The invariant of its loop: n segments are passed, and the next begins at `start`.
-- The measure is the row's length less `start`. Assumes nothing.
use Rattle.lists.proofs.Kit.{refl, sym, arith}
use Rattle.row_wrap.proofs.Walk.{walk_start, walk_next, walk_count, walk_end}
use Rattle.row_wrap.proofs.breaks.count_segments.Goals as goal

pub loop-start-init : goal.loop-start-init
loop-start-init c = walk_start _ _ _ _ _

pub loop-start-preserved : goal.loop-start-preserved
loop-start-preserved c =
    let invariant = c.loop-start.invariant in
    walk_count invariant c.loop-start.n refl
    (walk_next invariant c.loop-start-test.true c.first_segment-start.ensures.count)

pub returns : goal.returns
returns c = record { count = sym (walk_end c.loop-start.invariant c.loop-start-test.false); inside = omega arith }
