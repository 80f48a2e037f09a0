-- `list_signs::convert::write_plain` meets its contract. The invariant of its loop: the first n of what has no mark are written. Assumes nothing.
use Rattle.lists.proofs.Kit.{arith, rules}
use Rattle.list_signs.proofs.ListLaws.{writing_start, writing_skip, writing_room, writing_keep, writing_end}
use Rattle.list_signs.proofs.convert.write_plain.Goals as goal
use Rattle.list_signs.proofs.convert.write_plain.Goals.{then-not-marks-i, else-not-marks-i}

pub bounds-room-n : goal.bounds-room-n
bounds-room-n c =
    let fits = writing_room _ _ _ _ _ _ c.loop-i.invariant.writing (omega arith) (omega arith) c.if-not-marks-i.true in
    omega (arith, fits, c.loop-i.invariant.writing.same)

pub loop-i-preserved : goal.loop-i-preserved
loop-i-preserved c =
    let so_far = c.loop-i.invariant.writing in
    let enough = c.requires.fits in
    elim c.if-not-marks-i.branch [
      | then-not-marks-i w ↦ rw (w.n-is, w.room-is) (record {
        within = omega arith;
        writing = writing_keep _ _ _ _ _ _ so_far (omega arith) (omega arith) w.if-not-marks-i.true enough;
      })
      | else-not-marks-i w ↦ rw (w.n-is, w.room-is) (record {
        within = omega arith;
        writing = writing_skip _ _ _ _ _ _ so_far (omega arith) (omega arith) w.if-not-marks-i.false;
      })
    ]

pub loop-i-init : goal.loop-i-init
loop-i-init c = search (rules, writing_start)

pub offset_bounds-room-n : goal.offset_bounds-room-n
offset_bounds-room-n c = search (rules, writing_room)

pub overflow_add-n : goal.overflow_add-n
overflow_add-n c = search (rules, writing_room)

pub returns : goal.returns
returns c = search (rules, writing_end)
