-- `gaps::close_up` meets its contract. The invariant of its loop: the first k of the part are moved. The measure is the part's length less k.
-- A read stands behind what is written, since a + k ≤ b + k. Assumes nothing.
use Rattle.lists.proofs.Kit.{List, ℕ, ◌-◌, ◌≤◌, take, drop}
use Rattle.edit_places.proofs.Puts.{Up}
use Rattle.edit_places.proofs.gaps.close_up.Given as goal

pub record Moved (buf₀ : List ℕ) (len a b : ℕ) (buf : List ℕ) (k : ℕ) : Type 0 where
  pub within : k ≤ len - b
  pub up : Up buf₀ a (drop b (take len buf₀)) k buf

abbrev pub invariant-loop-k : goal.invariant-loop-k
invariant-loop-k l = Moved l.initial.buf l.len l.a l.b l.buf l.k

abbrev pub decreases-loop-k : goal.decreases-loop-k
decreases-loop-k l = l.len - l.b - l.k
