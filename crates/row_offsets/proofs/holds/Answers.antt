use borrow.Author.Tests.{le-leb, lt-leb}
use Rattle.row_offsets.proofs.holds.Goals as goal

pub returns-then-start-col : goal.returns-then-start-col
returns-then-start-col c = rw (lt-leb _ _ c.if-start-col.true)

pub returns : goal.returns
returns c = rw (le-leb _ _ c.if-start-col.false)
