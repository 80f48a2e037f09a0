-- `list_signs::convert::without_plus` meets its contract: everything is tested before anything is written. Assumes nothing.
use Rattle.lists.proofs.Kit.{arith}
use Rattle.list_signs.proofs.Answers.{short, enough, made_7, made_14, made}
use Rattle.list_signs.proofs.convert.without_plus.Goals as goal

pub returns-then-refused_list-ne0 : goal.returns-then-refused_list-ne0
returns-then-refused_list-ne0 c =
    let told =
    made_7 c.args.list.now _ c.refused_list.ensures _ c.if-refused_list-ne0.true in
    record { value = told.0; room_after = told.1 }

pub marks_of-marks-requires : goal.marks_of-marks-requires
marks_of-marks-requires c = short c.args.list.now _ c.refused_list.ensures c.if-refused_list-ne0.false

pub count_plain-n-requires : goal.count_plain-n-requires
count_plain-n-requires c =
    enough c.args.list.now _ c.refused_list.ensures c.if-refused_list-ne0.false _
    c.marks_of-marks.ensures

pub returns-then-room-n : goal.returns-then-room-n
returns-then-room-n c =
    let told =
    made_14 c.args.list.now _ c.refused_list.ensures c.if-refused_list-ne0.false _
    c.marks_of-marks.ensures _ _ c.count_plain-n.ensures c.if-room-n.true in
    record { value = told.0; room_after = told.1 }

pub write_plain-requires : goal.write_plain-requires
write_plain-requires c =
    record {
      marks_there = enough c.args.list.now _ c.refused_list.ensures c.if-refused_list-ne0.false _
          c.marks_of-marks.ensures;
      fits = omega (arith, c.count_plain-n.ensures, c.if-room-n.false);
    }

pub returns : goal.returns
returns c =
    let told =
    made c.args.list.now _ c.refused_list.ensures c.if-refused_list-ne0.false _
    c.marks_of-marks.ensures _ _ c.count_plain-n.ensures _ c.if-room-n.false c.write_plain.ensures in
    record { value = told.0; room_after = told.1 }
