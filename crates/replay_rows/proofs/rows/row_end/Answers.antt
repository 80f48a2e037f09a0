-- `rows::row_end` meets its contract. The invariant of its loop: the row ends no sooner than i.
-- Assumes nothing.
use Rattle.lists.proofs.Kit.{arith}
use Rattle.replay_rows.proofs.Reading.{row_end_here, row_end_on, row_end_cut}
use Rattle.replay_rows.proofs.rows.row_end.Goals as goal

-- the row's end stands at i
pub returns-then-bytes-i-eq10 : goal.returns-then-bytes-i-eq10
returns-then-bytes-i-eq10 c =
    let at_loop = c.loop-i in
    omega (arith, row_end_here c.args.bytes.now at_loop.i (omega arith) c.if-bytes-i-eq10.true)

pub loop-i-preserved : goal.loop-i-preserved
loop-i-preserved c =
    let at_loop = c.loop-i in
    let by_row_end_on = row_end_on c.args.bytes.now at_loop.i (omega arith) c.if-bytes-i-eq10.false in
    omega (arith, at_loop.invariant, by_row_end_on)

-- the bytes end
pub returns : goal.returns
returns c =
    let at_loop = c.loop-i in
    omega (arith, row_end_cut c.args.bytes.now at_loop.i c.loop-i-test.false)
