-- `check::go_on` meets its contract. The invariant of its loop: the first i starts ascend, and stand behind a separator each.
-- Assumes nothing.
use Rattle.lists.proofs.Kit.{◌≡◌, List, ℕ, ◌-◌, ◌≤◌, get_or}
use Rattle.row_table.specs.Ascend.{Ascend}
use Rattle.row_table.proofs.check.go_on.Given as goal

pub record Gone (t starts : List ℕ) (rows last i : ℕ) : Type 0 where
  pub ascend : Ascend t starts i
  pub last_is : last ≡ get_or starts (i - 1) 0
  pub within : i ≤ rows

abbrev pub invariant-loop-i : goal.invariant-loop-i
invariant-loop-i l = Gone l.t l.starts l.rows l.last l.i
