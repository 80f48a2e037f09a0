-- `gaps::open_gap` meets its contract. The invariant of its loop: all but the first k of the part are moved. The measure is k.
-- A read stands before what is written: with k the new one, a + k < a + m + (k + 1). Assumes nothing.
use Rattle.lists.proofs.Kit.{List, ℕ, ◌+◌, ◌-◌, ◌≤◌, take, drop}
use Rattle.edit_places.proofs.Puts.{Down}
use Rattle.edit_places.proofs.gaps.open_gap.Given as goal

pub record Moved (buf₀ : List ℕ) (len a m : ℕ) (buf : List ℕ) (k : ℕ) : Type 0 where
  pub within : k ≤ len - a
  pub down : Down buf₀ (a + m) (drop a (take len buf₀)) k buf

abbrev pub invariant-loop-k : goal.invariant-loop-k
invariant-loop-k l = Moved l.initial.buf l.len l.a l.m l.buf l.k

abbrev pub decreases-loop-k : goal.decreases-loop-k
decreases-loop-k l = l.k
