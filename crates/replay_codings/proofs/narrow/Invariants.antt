-- `narrow` meets its contract. The invariant of its loop: the numbers before i are bytes, and stand in the places.
-- Assumes nothing.
use Rattle.lists.proofs.Kit.{◌≡◌, List, ℕ, take, drop}
use Rattle.lists.specs.Lists.{any}
use Rattle.replay_codings.specs.Codings.{is_wide}
use Rattle.replay_codings.proofs.narrow.Given as goal

pub record Narrowed (numbers bytes : List ℕ) (i : ℕ) : Type 0 where
  pub rest : any is_wide numbers ≡ any is_wide (drop i numbers)
  pub front : take i bytes ≡ take i numbers

abbrev pub invariant-loop-i : goal.invariant-loop-i
invariant-loop-i l = Narrowed l.numbers l.bytes l.i
