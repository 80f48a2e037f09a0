-- `list_parts::numbers::digits` meets its contract. The invariant of its loop: the digits before i have the value `sum`, which is below 2^32,
-- and reading on from them gives the number. Assumes nothing.
use Rattle.lists.proofs.Kit.{◌≡◌, List, ℕ, ◌≤◌, length, drop}
use Rattle.list_parts.specs.Numbers.{digits_of, number_from}
use Rattle.list_parts.proofs.numbers.digits.Given as goal

pub record Read (p : List ℕ) (sum i : ℕ) : Type 0 where
  pub within : i ≤ length p
  pub small : sum ≤ 0xffffffff
  pub rest : digits_of p ≡ number_from sum (drop i p)

abbrev pub invariant-loop-x : goal.invariant-loop-x
invariant-loop-x l = Read l.p l.sum l.x-index
