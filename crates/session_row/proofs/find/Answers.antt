-- `session_row::find` meets its contract. The invariant of its loop: the first x stands at or after i.
-- Assumes nothing.
use Rattle.lists.proofs.Kit.{arith}
use Rattle.lists.proofs.Finding.{up_to_stop, up_to_on, up_to_end}
use Rattle.session_row.proofs.find.Goals as goal

pub returns-then-s-i : goal.returns-then-s-i
returns-then-s-i c =
    let by_up_to_stop = up_to_stop c.args.s.now c.loop-i.i c.args.x c.loop-i-test.true
    c.if-s-i.true in
    record { at = omega arith; after = omega arith; within = omega arith }

pub loop-i-preserved : goal.loop-i-preserved
loop-i-preserved c =
    let by_up_to_on = up_to_on c.args.s.now c.loop-i.i c.args.x c.loop-i-test.true c.if-s-i.false in
    omega arith

pub returns : goal.returns
returns c =
    let by_up_to_end = up_to_end c.args.s.now c.loop-i.i c.args.x c.loop-i-test.false in
    record { at = omega arith; after = omega arith; within = omega arith }
