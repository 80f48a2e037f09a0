-- `text::offsets::line_of` meets its contract. The invariant of its loop: i stands in row `row`. Assumes nothing.
use Rattle.lists.proofs.Kit.{List, ℕ, ◌≤◌, length}
use Rattle.text.specs.Offsets.{Stands}
use Rattle.text.proofs.offsets.line_of.Given as goal

pub record Walked (t : List ℕ) (at row start i : ℕ) : Type 0 where
  pub stands : Stands t row start i
  pub before : i ≤ at
  pub within : at ≤ length t

abbrev pub invariant-loop-i : goal.invariant-loop-i
invariant-loop-i l = Walked l.t l.at l.row l.start l.i
