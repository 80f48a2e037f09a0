-- `lend::unfit` meets its contract, arm by arm. Assumes nothing.
use borrow.Author.Tests.{le-leb, lt-leb}
use Rattle.call_bytes.specs.Reply.{unfit}
use Rattle.call_bytes.proofs.lend.unfit.Goals as goal

pub returns-then-not-whole : goal.returns-then-not-whole
unfolding unfit
returns-then-not-whole c = rw (c.if-not-whole.true)

pub returns-then-points-room : goal.returns-then-points-room
unfolding unfit
returns-then-points-room c = rw (c.if-not-whole.false, lt-leb _ _ c.if-points-room.true)

pub returns : goal.returns
unfolding unfit
returns c = rw (c.if-not-whole.false, le-leb _ _ c.if-points-room.false)
