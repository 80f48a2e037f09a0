-- `list_parts::parts::find` meets its contract. The invariant of its loop: the first x stands at or after i. Assumes nothing.
use Rattle.lists.proofs.Kit.{arith}
use Rattle.lists.proofs.Finding.{up_to_stop, up_to_on, up_to_end}
use Rattle.list_parts.proofs.parts.find.Goals as goal

pub returns-then-list-i : goal.returns-then-list-i
returns-then-list-i c =
    omega (arith, up_to_stop c.args.list.now c.loop-i.i c.args.x c.loop-i-test.true c.if-list-i.true)

pub loop-i-preserved : goal.loop-i-preserved
loop-i-preserved c =
    omega (arith, up_to_on c.args.list.now c.loop-i.i c.args.x c.loop-i-test.true c.if-list-i.false)

pub returns : goal.returns
returns c =
    omega (arith, up_to_end c.args.list.now c.loop-i.i c.args.x c.loop-i-test.false)
