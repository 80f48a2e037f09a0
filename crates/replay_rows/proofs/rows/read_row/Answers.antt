-- `rows::read_row` meets its contract. The invariant of its loop, `Reading`: the numbers before the index stand at the front of the room.
-- Assumes nothing.
use Rattle.lists.proofs.Kit.{◌-◌, arith, length, rules, not-true, not-false}
use Rattle.replay_rows.proofs.Reading.{read_unbegun, read_full, read_ended, read_spoilt, read_on, read_cut, read_whole}
use Rattle.replay_rows.proofs.Reading.{reading_start, reading_malformed, reading_whole, reading_on, reading_ended}
use Rattle.replay_rows.proofs.rows.read_row.Goals as goal
use Rattle.replay_rows.proofs.rows.read_row.Goals.{then-x+else-not-r+else-times-room, else-x+else-not-r-2}

pub loop-x-init : goal.loop-x-init
loop-x-init c =
    let given = c.args in
    rw c.fresh-r.ensures (reading_start given.row.now given.room.now)

-- there is too little room
pub returns-then-times-room : goal.returns-then-times-room
returns-then-times-room c =
    let given = c.args in
    reading_malformed c.loop-x.invariant
    (read_full given.row.now c.loop-x.x-index _ c.loop-x.r (omega arith) c.if-x.true (omega arith))

-- a byte that no number has there
pub returns-then-not-r-2 : goal.returns-then-not-r-2
returns-then-not-r-2 c =
    let given = c.args in
    reading_malformed c.loop-x.invariant (read_spoilt given.row.now c.loop-x.x-index _ c.loop-x.r (omega arith) c.if-x.false
    (rw (← c.step-r.ensures) (not-true _ c.if-not-r-2.true)))

-- a number ends, or a byte of a number
pub loop-x-preserved : goal.loop-x-preserved
loop-x-preserved c =
    let row_now = c.args.row.now in
    let difference = length c.args.room.now - c.loop-x.n in
    elim c.if-x.branch [
      | then-x+else-not-r+else-times-room w ↦
          let by_read_ended = read_ended row_now c.loop-x.x-index difference c.loop-x.r (omega arith)
          w.if-x.true (not-false _ w.if-not-r.false) (omega arith) in
          rw (w.room-is, w.n-is, w.r-is, w.fresh-r-then-x.ensures)
          (reading_ended c.loop-x.invariant (omega arith) w.fill.ensures (omega arith) by_read_ended)
      | else-x+else-not-r-2 w ↦
          let by_read_on = read_on row_now c.loop-x.x-index difference c.loop-x.r (omega arith) w.if-x.false
          (rw (← w.step-r.ensures) (not-false _ w.if-not-r-2.false)) in
          rw (w.room-is, w.n-is, w.r-is, w.step-r.ensures) (reading_on c.loop-x.invariant (omega arith) by_read_on)
    ]

-- a number ends that has no digits
pub returns-then-not-r : goal.returns-then-not-r
returns-then-not-r c = search (rules, not-true, read_unbegun, reading_malformed)

-- the row ends within a number
pub returns-then-r : goal.returns-then-r
returns-then-r c = search (rules, read_cut, reading_malformed)

pub returns : goal.returns
returns c = search (rules, read_whole, reading_whole)
