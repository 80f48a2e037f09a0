-- `text::offsets::up` meets its contract. The invariant of its loop: i stands in row r, and `left` rows are still to go up.
-- The measure is i. Assumes nothing.
use Rattle.lists.proofs.Kit.{◌≡◌, List, ℕ, ◌-◌}
use Rattle.text.specs.Offsets.{Stands, row_start}
use Rattle.text.proofs.offsets.up.Given as goal

pub record Walked (t : List ℕ) (row n r left i : ℕ) : Type 0 where
  pub stands : Stands t r (row_start t r) i
  pub gone_up : r - left ≡ row - n

abbrev pub invariant-loop-i : goal.invariant-loop-i
invariant-loop-i l = Walked l.t l.row l.n l.r l.left l.i

abbrev pub decreases-loop-i : goal.decreases-loop-i
decreases-loop-i l = l.i
