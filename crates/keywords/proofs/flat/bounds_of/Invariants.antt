-- `keywords::bounds_of` meets its contract. The invariant of its loop: the bounds of the tokens before i are stored, and after them stands 0.
-- Assumes nothing.
use Rattle.lists.proofs.Kit.{length, ◌≡◌, List, ℕ, ◌≤◌, take}
use Rattle.keywords.specs.Flat.{flat, padded}
use Rattle.list_tokens.specs.declared.Token.{Token}
use Rattle.keywords.proofs.flat.bounds_of.Given as goal

pub record Stored (tokens : List Token) (n : ℕ) (bounds : List ℕ) (i : ℕ) : Type 0 where
  pub within : i ≤ n
  pub stored : bounds ≡ padded (flat (take i tokens))

abbrev pub invariant-loop-i : goal.invariant-loop-i
invariant-loop-i l = Stored l.t-items (length l.t-items) l.bounds l.i
