-- `list_signs::convert::count_plain` meets its contract. The invariant of its loop: n are those before i. Assumes nothing.
use Rattle.lists.proofs.Kit.{◌≡◌, List, Bool, ℕ, ◌+◌, ◌≤◌, length, drop}
use Rattle.list_signs.specs.Plain.{without}
use Rattle.list_signs.proofs.convert.count_plain.Given as goal

pub record Counted (list : List ℕ) (marks : List Bool) (n i : ℕ) : Type 0 where
  pub within : i ≤ length list
  pub few : n ≤ i
  pub total : length (without list marks) ≡ n + length (without (drop i list) (drop i marks))

abbrev pub invariant-loop-i : goal.invariant-loop-i
invariant-loop-i l = Counted l.list l.marks l.n l.i
