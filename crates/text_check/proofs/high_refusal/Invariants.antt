-- `text_check::high_refusal` meets its contract. The invariant of its loop: what was found so far, or is still to be found, is what the text holds.
-- Assumes nothing.
use Rattle.lists.proofs.Kit.{List, Bool, ℕ}
use Rattle.chars.specs.Scalar.{not_scalar}
use Rattle.lists.proofs.Any.{Finds}
use Rattle.text_check.specs.Accept.{is_separator}
use Rattle.text_check.proofs.high_refusal.Given as goal

pub record Found (t : List ℕ) (wrong separator : Bool) (i : ℕ) : Type 0 where
  pub wrongs : Finds not_scalar t wrong i
  pub separators : Finds is_separator t separator i

abbrev pub invariant-loop-x : goal.invariant-loop-x
invariant-loop-x l = Found l.t l.wrong l.separator l.x-index
