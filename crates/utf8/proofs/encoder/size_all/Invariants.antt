-- `encoder::size_all` meets its contract. The invariant of its loop: the bytes counted, and those to come. Assumes nothing.
use Rattle.lists.proofs.Kit.{◌≡◌, List, ℕ, ◌+◌, ◌*◌, ◌≤◌, length, drop}
use Rattle.utf8.specs.Encoding.{utf8}
use Rattle.utf8.proofs.encoder.size_all.Given as goal

pub record Counted (points : List ℕ) (n i : ℕ) : Type 0 where
  pub within : i ≤ length points
  pub small : n ≤ 4 * i
  pub whole : length (utf8 points) ≡ n + length (utf8 (drop i points))

abbrev pub invariant-loop-x : goal.invariant-loop-x
invariant-loop-x l = Counted l.points l.n l.x-index
