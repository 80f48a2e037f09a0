-- `sum` meets its contract. The invariant of its loop: what is added, with what is left, comes to the whole. Assumes nothing.
use Rattle.lists.proofs.Kit.{◌≡◌, List, ℕ, ◌+◌, ◌*◌, ◌≤◌, length, drop}
use Rattle.fold_blocks.specs.Bytes.{sum}
use Rattle.fold_blocks.proofs.sum.Given as goal

pub record Added (bytes : List ℕ) (total i : ℕ) : Type 0 where
  pub within : i ≤ length bytes
  pub small : total ≤ 255 * i
  pub whole : sum bytes ≡ total + sum (drop i bytes)

abbrev pub invariant-loop-x : goal.invariant-loop-x
invariant-loop-x l = Added l.bytes l.total l.x-index
