-- `wraps::segments_by` meets its contract, mode by mode. Assumes nothing.
use Rattle.lists.proofs.Kit.{arith}
use Rattle.call_rows.specs.Wraps.{mode_of}
use Rattle.call_rows.proofs.Segments.{segmented_by, segmented_none}
use Rattle.call_rows.proofs.wraps.segments_by.Goals as goal

pub returns-in-0 : goal.returns-in-0
unfolding mode_of
returns-in-0 c =
    segmented_by (rw c.in-0.is) (omega (arith, c.in-0.is))
    c.wrap_segments.ensures c.told_segments.ensures

pub returns-in-1 : goal.returns-in-1
unfolding mode_of
returns-in-1 c =
    segmented_by (rw c.in-1.is) (omega (arith, c.in-1.is))
    c.wrap_segments-in-1.ensures c.told_segments-in-1.ensures

pub returns-in-2 : goal.returns-in-2
unfolding mode_of
returns-in-2 c =
    segmented_by (rw c.in-2.is) (omega (arith, c.in-2.is))
    c.wrap_segments-in-2.ensures c.told_segments-in-2.ensures

pub returns-in_default : goal.returns-in_default
returns-in_default c =
    let other = c.in_default.in_default-own.rest in
    segmented_none (omega (arith, other.0.0.1, other.0.1, other.1))
