-- `writer::put_list` meets its contract. The invariant of its loop: the list of the first i tokens is written. Assumes nothing.
use Rattle.lists.proofs.Kit.{arith, length, take, take_all}
use Rattle.print.proofs.Laws.{wrote_none}
use Rattle.vim_writer.specs.Written.{written}
use Rattle.vim_writer.proofs.RoomLaws.{put_first, put_next, room_first, room_next}
use Rattle.vim_writer.proofs.writer.put_list.Goals as goal
use Rattle.vim_writer.proofs.writer.put_list.Goals.{then-i-gt0, else-i-gt0}

pub loop-i-init : goal.loop-i-init
unfolding written
loop-i-init c = record { within = omega arith; wrote = wrote_none _ 0 }

pub put-at-requires : goal.put-at-requires
put-at-requires c =
    let given = c.args.spec in
    let at_loop = c.loop-i in
    let room = room_next (take given.len given.tokens) at_loop.i at_loop.at (length c.args.room.now) c.loop-i-test.true c.requires.fits
    at_loop.invariant.wrote.next (λ z. omega arith) in
    omega (arith, room, at_loop.invariant.wrote.size)

pub put_token-at-requires : goal.put_token-at-requires
put_token-at-requires c =
    let given = c.args.spec in
    let at_loop = c.loop-i in
    let ts = take given.len given.tokens in
    let place = length c.args.room.now in
    let next = at_loop.invariant.wrote.next in
    elim c.if-i-gt0.branch [
      | then-i-gt0 w ↦ omega (
        arith,
        room_next ts at_loop.i at_loop.at place c.loop-i-test.true c.requires.fits next (λ z. omega arith),
        w.put-at.ensures.next,
        c.if-i-gt0.auto.room,
        c.loop-i.auto.room,
      )
      -- the first token
      | else-i-gt0 w ↦ omega (
        arith,
        room_first ts at_loop.i at_loop.at place c.loop-i-test.true c.requires.fits next (omega arith),
        c.if-i-gt0.auto.room,
        c.loop-i.auto.room,
      )
    ]

pub loop-i-preserved : goal.loop-i-preserved
loop-i-preserved c =
    let given = c.args.spec in
    let at_loop = c.loop-i in
    let ts = take given.len given.tokens in
    let so_far = at_loop.invariant.wrote in
    elim c.if-i-gt0.branch [
      | then-i-gt0 w ↦ record {
        within = omega arith;
        wrote = put_next ts at_loop.i c.loop-i-test.true so_far (λ z. omega arith) w.put-at.ensures (rw (w.at-is, w.room-is) at c.put_token-at.ensures);
      }
      -- the first token
      | else-i-gt0 w ↦ record {
        within = omega arith;
        wrote = put_first ts at_loop.i c.loop-i-test.true so_far (omega arith) (rw (w.at-is, w.room-is) at c.put_token-at.ensures);
      }
    ]

pub returns : goal.returns
returns c =
    let given = c.args.spec in
    let at_loop = c.loop-i in
    let whole = take_all at_loop.i (take given.len given.tokens) c.loop-i-test.false in
    rw whole at at_loop.invariant.wrote
