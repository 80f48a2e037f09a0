-- `row_wrap::breaks::write_segments` meets its contract. The invariant of its loop: the first `at` numbers of the
-- segments stand in the room, and the next segment begins at `start`. The measure is the row's length less `start`. Assumes nothing.
use Rattle.lists.proofs.Kit.{List, Bool, ℕ, ◌-◌, length}
use Rattle.chars.specs.White.{is_white}
use Rattle.chars.specs.Width.{width_with}
use Rattle.row_wrap.proofs.Room.{FilledTo}
use Rattle.row_wrap.proofs.Walk.{SegmentsTo}
use Rattle.row_wrap.specs.Calls.{row_segments}
use Rattle.row_wrap.proofs.breaks.write_segments.Given as goal

pub record Written (w : ℕ → ℕ) (word : Bool) (width : ℕ) (row out₀ out : List ℕ) (at start : ℕ) : Type 0 where
  pub walk : SegmentsTo w is_white word width row at start
  pub filled : FilledTo (row_segments w word width row) out₀ at out

abbrev pub invariant-loop-start : goal.invariant-loop-start
invariant-loop-start l =
    Written (width_with l.by) l.word l.width l.row l.initial.out l.out l.at l.start

abbrev pub decreases-loop-start : goal.decreases-loop-start
decreases-loop-start l = length l.row - l.start
