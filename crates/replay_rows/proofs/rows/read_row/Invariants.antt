-- `rows::read_row` meets its contract. The invariant of its loop, `Reading`: the numbers before the index stand at the front of the room.
-- Assumes nothing.
use Rattle.replay_rows.proofs.Reading.{Reading}
use Rattle.replay_rows.proofs.rows.read_row.Given as goal

abbrev pub invariant-loop-x : goal.invariant-loop-x
invariant-loop-x l = Reading l.row l.initial.room l.room l.n l.r l.x-index
