-- `rows::row_end` meets its contract. The invariant of its loop: the row ends no sooner than i.
-- Assumes nothing.
use Rattle.lists.proofs.Kit.{◌≡◌, ◌+◌, drop}
use Rattle.replay_rows.specs.Rows.{row_length}
use Rattle.replay_rows.proofs.rows.row_end.Given as goal

abbrev pub invariant-loop-i : goal.invariant-loop-i
invariant-loop-i l = l.at + row_length (drop l.at l.bytes) ≡ l.i + row_length (drop l.i l.bytes)
