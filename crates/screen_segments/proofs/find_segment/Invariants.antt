-- `screen_segments::find_segment` meets its contract. The invariant of its loop: k segments are passed, none of them the one looked for.
-- The measure is the row's length less the start of the next. Assumes nothing.
use Rattle.lists.proofs.Kit.{◌-◌, length}
use Rattle.chars.specs.Width.{width_with}
use Rattle.screen_segments.proofs.Finding.{Seeking}
use Rattle.screen_segments.proofs.find_segment.Given as goal

abbrev pub invariant-loop-start : goal.invariant-loop-start
invariant-loop-start l = Seeking (width_with l.by) l.word l.width l.row l.col l.index l.k l.start

abbrev pub decreases-loop-start : goal.decreases-loop-start
decreases-loop-start l = length l.row - l.start
