-- `text_check::text_refusal` meets its contract. The invariant of its loop: what was found so far, or is still to be found, is what the text holds.
-- Assumes nothing.
use Rattle.lists.proofs.Kit.{List, Bool, ◌||◌, ℕ}
use Rattle.lists.proofs.Any.{Finds}
use Rattle.text_check.specs.Accept.{is_high, is_low}
use Rattle.text_check.proofs.text_refusal.Given as goal

pub record Found (t : List ℕ) (high low : Bool) (i : ℕ) : Type 0 where
  pub highs : Finds is_high t high i
  pub lows : Finds is_low t low i

abbrev pub invariant-loop-x : goal.invariant-loop-x
invariant-loop-x l = Found l.t l.high (l.feed || l.next) l.x-index
