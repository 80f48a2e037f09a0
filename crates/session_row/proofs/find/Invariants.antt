-- `session_row::find` meets its contract. The invariant of its loop: the first x stands at or after i.
-- Assumes nothing.
use Rattle.lists.proofs.Kit.{◌≡◌, ◌+◌, drop}
use Rattle.lists.specs.Lists.{up_to}
use Rattle.session_row.proofs.find.Given as goal

abbrev pub invariant-loop-i : goal.invariant-loop-i
invariant-loop-i l = l.from + up_to l.x (drop l.from l.s) ≡ l.i + up_to l.x (drop l.i l.s)
