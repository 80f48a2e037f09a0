-- `session_row::digits` meets its contract. The invariant of its loop: n is the value of the digits before the index i, below ten to the i.
-- Assumes nothing.
use Rattle.lists.proofs.Kit.{◌≡◌, List, ℕ, ◌<◌, ◌^◌, drop}
use Rattle.session_row.specs.Commands.{digits_from}
use Rattle.session_row.proofs.digits.Given as goal

pub record Read (s : List ℕ) (n i : ℕ) : Type 0 where
  pub small : n < 10 ^ i
  pub rest : digits_from 0 s ≡ digits_from n (drop i s)

abbrev pub invariant-loop-b : goal.invariant-loop-b
invariant-loop-b l = Read l.s l.n l.b-index
