-- `list_signs::entry::first_mark` meets its contract. The invariant of its loop: no mark before i is true. Assumes nothing.
use Rattle.lists.proofs.Kit.{◌≡◌, List, Bool, ℕ, ◌+◌, ◌≤◌, length, drop}
use Rattle.list_signs.specs.Plain.{first_in}
use Rattle.list_signs.proofs.entry.first_mark.Given as goal

pub record Passed (list : List ℕ) (marks : List Bool) (i : ℕ) : Type 0 where
  pub within : i ≤ length list
  pub rest : first_in list marks ≡ i + first_in (drop i list) (drop i marks)

abbrev pub invariant-loop-i : goal.invariant-loop-i
invariant-loop-i l = Passed l.list l.marks l.i
