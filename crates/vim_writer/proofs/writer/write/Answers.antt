-- `writer::write` meets its contract: refusal 8, then 14, then the list at the front of the room. Assumes nothing.
use Rattle.lists.proofs.Kit.{arith}
use Rattle.vim_writer.proofs.RoomLaws.{write_8, write_14, write_made}
use Rattle.vim_writer.proofs.writer.write.Goals as goal

pub returns-then-spec-gt128 : goal.returns-then-spec-gt128
returns-then-spec-gt128 c =
    let told =
    write_8 c.args.spec c.args.room.now c.if-spec-gt128.true in
    record { value = told.0; room_after = told.1 }

pub returns-then-room-n : goal.returns-then-room-n
returns-then-room-n c =
    let given = c.args in
    let told =
    write_14 given.spec given.room.now c.if-spec-gt128.false (omega (arith, c.list_size-n.ensures)) in
    record { value = told.0; room_after = told.1 }

pub returns : goal.returns
returns c =
    let given = c.args in
    let told =
    write_made given.spec given.room.now _ _ c.if-spec-gt128.false (omega (arith, c.list_size-n.ensures))
    c.put_list.ensures in
    record { value = told.0; room_after = told.1 }
