use borrow.Author.Tests.{lt-ltb, le-ltb}
use Rattle.edit_checks.specs.Refusals.{room_refusal}
use Rattle.edit_checks.proofs.room.Goals as goal

pub returns-then-n-buf : goal.returns-then-n-buf
unfolding room_refusal
returns-then-n-buf c = rw (lt-ltb _ _ c.if-n-buf.true)

pub returns-then-n-gt1048576 : goal.returns-then-n-gt1048576
unfolding room_refusal
returns-then-n-gt1048576 c = rw (le-ltb _ _ c.if-n-buf.false, lt-ltb _ _ c.if-n-gt1048576.true)

pub returns : goal.returns
unfolding room_refusal
returns c = rw (le-ltb _ _ c.if-n-buf.false, le-ltb _ _ c.if-n-gt1048576.false)
