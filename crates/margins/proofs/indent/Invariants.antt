-- `margins::indent` meets its contract. The invariant of its loop: everything before i is blank. Assumes nothing.
use Rattle.lists.proofs.Kit.{◌≡◌, ◌+◌, ◌≤◌, length, drop}
use Rattle.margins.specs.Margins.{indent_of}
use Rattle.margins.proofs.indent.Given as goal

abbrev pub invariant-loop-i : goal.invariant-loop-i
invariant-loop-i l = (l.i ≤ length l.row) × (indent_of l.row ≡ l.i + indent_of (drop l.i l.row))
