-- `text::few` meets its contract. The invariant of its loop: n counts the separators before x. Assumes nothing.
use Rattle.lists.proofs.Kit.{arith}
use Rattle.text.proofs.Rows.{count_nl, count_on, count_end}
use Rattle.text.proofs.few.Goals as goal
use Rattle.text.proofs.few.Goals.{then-x-eq10, else-x-eq10}

pub loop-x-preserved : goal.loop-x-preserved
loop-x-preserved c =
    let part = c.args.part.now in
    let i = c.loop-x.x-index in
    elim c.if-x-eq10.branch [
      | then-x-eq10 w ↦ omega (arith, count_nl part i c.loop-x-test.true w.if-x-eq10.true)
      | else-x-eq10 w ↦ omega (arith, count_on part i c.loop-x-test.true w.if-x-eq10.false)
    ]

pub returns : goal.returns
returns c = omega (arith, count_end c.args.part.now c.loop-x.x-index c.loop-x-test.false)
