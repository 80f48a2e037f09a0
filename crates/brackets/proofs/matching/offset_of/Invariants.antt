-- `brackets::matching::offset_of` meets its contract. The invariant of its loop: i stands in the row, `left` columns before the one sought.
-- Assumes nothing.
use Rattle.lists.proofs.Kit.{◌≡◌, List, ℕ, ◌+◌}
use Rattle.text.specs.Offsets.{Stands}
use Rattle.brackets.proofs.matching.offset_of.Given as goal

pub record Walked (t : List ℕ) (row start col i left : ℕ) : Type 0 where
  pub stands : Stands t row start i
  pub away : i + left ≡ start + col

abbrev pub invariant-loop-i : goal.invariant-loop-i
invariant-loop-i l = Walked l.t l.row l.start l.col l.i l.left
