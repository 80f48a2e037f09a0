-- `wraps::told_segment` meets its contract, by the cases of the answer. Assumes nothing.
use Rattle.lists.proofs.Kit.{le-leb, lt-leb}
use Rattle.call_rows.specs.Wraps.{told_segment}
use Rattle.call_rows.proofs.wraps.told_segment.Goals as goal

pub returns-then-n-gt4294967295 : goal.returns-then-n-gt4294967295
unfolding told_segment
returns-then-n-gt4294967295 c = rw (c.in-At.is, lt-leb _ _ c.if-n-gt4294967295.true)

pub returns-else-n-gt4294967295 : goal.returns-else-n-gt4294967295
unfolding told_segment
returns-else-n-gt4294967295 c = rw (c.in-At.is, le-leb _ _ c.if-n-gt4294967295.false)

pub returns-in-Refused : goal.returns-in-Refused
unfolding told_segment
returns-in-Refused c = rw c.in-Refused.is
