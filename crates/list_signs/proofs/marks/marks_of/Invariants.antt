-- `list_signs::marks::marks_of` meets its contract. The invariant of its loop: the marks of the parts before `from` are made, and there are none
-- from there on. The measure is how far `from` is from past the list's end. Assumes nothing.
use Rattle.lists.proofs.Kit.{List, Bool, ℕ, ◌+◌, ◌-◌, ◌≤◌, length}
use Rattle.list_signs.proofs.Marking.{Marking}
use Rattle.list_signs.proofs.marks.marks_of.Given as goal

pub record MarkedTo (list : List ℕ) (marks : List Bool) (from : ℕ) : Type 0 where
  pub within : from ≤ length list + 1
  pub marking : Marking list marks from

abbrev pub invariant-loop-from : goal.invariant-loop-from
invariant-loop-from l = MarkedTo l.list l.marks l.from

abbrev pub decreases-loop-from : goal.decreases-loop-from
decreases-loop-from l = length l.list + 1 - l.from
