-- `list_parts::parts::find` meets its contract. The invariant of its loop: the first x stands at or after i. Assumes nothing.
use Rattle.lists.proofs.Kit.{◌≡◌, ◌+◌, ◌≤◌, length, drop}
use Rattle.lists.specs.Lists.{up_to}
use Rattle.list_parts.proofs.parts.find.Given as goal

abbrev pub invariant-loop-i : goal.invariant-loop-i
invariant-loop-i l = (l.i ≤ length l.list) × (l.from + up_to l.x (drop l.from l.list) ≡ l.i + up_to l.x (drop l.i l.list))
