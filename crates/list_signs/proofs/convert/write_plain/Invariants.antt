-- `list_signs::convert::write_plain` meets its contract. The invariant of its loop: the first n of what has no mark are written. Assumes nothing.
use Rattle.lists.proofs.Kit.{List, Bool, ℕ, ◌≤◌, length}
use Rattle.list_signs.proofs.ListLaws.{Writing}
use Rattle.list_signs.proofs.convert.write_plain.Given as goal

pub record WrittenTo (list : List ℕ) (marks : List Bool) (room₀ room : List ℕ) (n i : ℕ) : Type 0 where
  pub within : i ≤ length list
  pub writing : Writing list marks room₀ room n i

abbrev pub invariant-loop-i : goal.invariant-loop-i
invariant-loop-i l = WrittenTo l.list l.marks l.initial.room l.room l.n l.i
