-- `put::put_zeros` meets its contract. The invariant of its loop: the first k zeros are written. The measure is their number less k.
-- Assumes nothing.
use Rattle.lists.proofs.Kit.{List, ℕ, ◌-◌, ◌≤◌}
use Rattle.edit_places.specs.Replaced.{zeros}
use Rattle.edit_places.proofs.Puts.{Up}
use Rattle.edit_places.proofs.put.put_zeros.Given as goal

pub record Put (buf₀ : List ℕ) (at n : ℕ) (buf : List ℕ) (k : ℕ) : Type 0 where
  pub within : k ≤ n
  pub up : Up buf₀ at (zeros n) k buf

abbrev pub invariant-loop-k : goal.invariant-loop-k
invariant-loop-k l = Put l.initial.buf l.at l.n l.buf l.k

abbrev pub decreases-loop-k : goal.decreases-loop-k
decreases-loop-k l = l.n - l.k
