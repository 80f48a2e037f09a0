-- `wraps::told_segments` meets its contract, by the cases of the answer. Assumes nothing.
use Rattle.call_rows.specs.Wraps.{told_segments}
use Rattle.call_rows.proofs.wraps.told_segments.Goals as goal

pub returns-in-Count : goal.returns-in-Count
unfolding told_segments
returns-in-Count c = rw c.in-Count.is

pub returns-in-Refused : goal.returns-in-Refused
unfolding told_segments
returns-in-Refused c = rw c.in-Refused.is
