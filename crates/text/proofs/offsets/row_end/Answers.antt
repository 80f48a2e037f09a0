-- `text::offsets::row_end` meets its contract. The invariant of its loop: e is i, and the end is where the row from i on ends.
-- Assumes nothing.
use Rattle.lists.proofs.Kit.{arith}
use Rattle.text.proofs.Rows.{rest_nl, rest_on, rest_end}
use Rattle.text.proofs.offsets.row_end.Goals as goal

pub returns-then-t-i-eq10 : goal.returns-then-t-i-eq10
returns-then-t-i-eq10 c =
    omega (arith, rest_nl c.args.t.now c.loop-i.i c.loop-i-test.true c.if-t-i-eq10.true)

pub loop-i-preserved : goal.loop-i-preserved
loop-i-preserved c =
    omega (arith, rest_on c.args.t.now c.loop-i.i c.loop-i-test.true c.if-t-i-eq10.false)

pub returns : goal.returns
returns c = omega (arith, rest_end c.args.t.now c.loop-i.i c.loop-i-test.false)
