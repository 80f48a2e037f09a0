-- `text::offsets::walk_up` meets its contract. The invariant of its loop: b stands in row r, and `left` rows are still to go up.
-- Assumes nothing.
use Rattle.lists.proofs.Kit.{◌≡◌, List, ℕ, ◌+◌, ◌≤◌}
use Rattle.text.specs.Offsets.{Stands, row_start}
use Rattle.text.proofs.offsets.walk_up.Given as goal

pub record Walked (t : List ℕ) (row n r left i : ℕ) : Type 0 where
  pub stands : Stands t r (row_start t r) i
  pub few : left ≤ n
  pub gone_up : r + n ≡ row + left

abbrev pub invariant-loop-b : goal.invariant-loop-b
invariant-loop-b l = Walked l.t l.row l.n l.r l.left l.b
