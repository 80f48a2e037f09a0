-- `list_signs::convert::count_plain` meets its contract. The invariant of its loop: n are those before i. Assumes nothing.
use Rattle.lists.proofs.Kit.{ap, arith, length}
use Rattle.list_signs.proofs.ListLaws.{without_skip, without_keep, without_end}
use Rattle.list_signs.proofs.convert.count_plain.Goals as goal
use Rattle.list_signs.proofs.convert.count_plain.Goals.{then-not-marks-i, else-not-marks-i}

pub loop-i-preserved : goal.loop-i-preserved
loop-i-preserved c =
    let list_now = c.args.list.now in
    let marks_now = c.args.marks.now in
    elim c.if-not-marks-i.branch [
      | then-not-marks-i w ↦
          let on = without_keep list_now marks_now c.loop-i.i (omega arith) (omega arith) w.if-not-marks-i.true in
          record { within = omega arith; few = omega arith; total = omega (arith, c.loop-i.invariant.total, ap length on) }
      | else-not-marks-i w ↦
          let on = without_skip list_now marks_now c.loop-i.i (omega arith) (omega arith) w.if-not-marks-i.false in
          record { within = omega arith; few = omega arith; total = omega (arith, c.loop-i.invariant.total, ap length on) }
    ]

pub returns : goal.returns
returns c =
    let given = c.args in
    omega (arith, c.loop-i.invariant.total, ap length (without_end given.list.now given.marks.now c.loop-i.i c.loop-i-test.false))
