-- `row_wrap::breaks::count_segments` meets its contract. The invariant of its loop: n segments are passed, and the next begins at `start`.
-- The measure is the row's length less `start`. Assumes nothing.
use Rattle.lists.proofs.Kit.{◌-◌, ◌*◌, length}
use Rattle.chars.specs.White.{is_white}
use Rattle.chars.specs.Width.{width_with}
use Rattle.row_wrap.proofs.Walk.{SegmentsTo}
use Rattle.row_wrap.proofs.breaks.count_segments.Given as goal

abbrev pub invariant-loop-start : goal.invariant-loop-start
invariant-loop-start l = SegmentsTo (width_with l.by) is_white l.word l.width l.row (2 * l.n) l.start

abbrev pub decreases-loop-start : goal.decreases-loop-start
decreases-loop-start l = length l.row - l.start
