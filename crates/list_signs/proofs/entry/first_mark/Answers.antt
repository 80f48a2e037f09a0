-- `list_signs::entry::first_mark` meets its contract. The invariant of its loop: no mark before i is true. Assumes nothing.
use Rattle.lists.proofs.Kit.{arith}
use Rattle.list_signs.proofs.ListLaws.{first_hit, first_on, first_end}
use Rattle.list_signs.proofs.entry.first_mark.Goals as goal

pub returns-then-marks-i : goal.returns-then-marks-i
returns-then-marks-i c =
    let given = c.args in
    omega (arith, c.loop-i.invariant.rest, first_hit given.list.now given.marks.now c.loop-i.i (omega arith) (omega arith) c.if-marks-i.true)

pub loop-i-preserved : goal.loop-i-preserved
loop-i-preserved c =
    let given = c.args in
    let on = first_on given.list.now given.marks.now c.loop-i.i (omega arith) (omega arith) c.if-marks-i.false in
    record { within = omega arith; rest = omega (arith, c.loop-i.invariant.rest, on) }

pub returns : goal.returns
returns c =
    let given = c.args in
    omega (arith, c.loop-i.invariant.rest, first_end given.list.now given.marks.now c.loop-i.i c.loop-i-test.false)
