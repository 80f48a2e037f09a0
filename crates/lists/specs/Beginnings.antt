-- Where an input goes wrong, over any statement of what is accepted: the length of its longest beginning that some accepted input has. An input
-- that is cut off goes wrong at its end. Definitions only; that there is one such place is `place_one` of `proofs/Beginnings.antt`. Assumes nothing.
use Rattle.std.specs.Prelude.{ℕ, ◌+◌, ◌≤◌, ◌<◌, List, ◌++◌, length, take}

-- some accepted input begins with p
abbrev pub Begins : (List ℕ → Type 0) → List ℕ → Type 0
Begins Accepted p = (rest : List ℕ) × Accepted (p ++ rest)

-- the first n of b begin an accepted input, and with the one at n they don't
pub record Place (Accepted : List ℕ → Type 0) (b : List ℕ) (n : ℕ) : Type 0 where
  pub inside : n ≤ length b
  pub begins : Begins Accepted (take n b)
  pub longest : n < length b → Begins Accepted (take (n + 1) b) → ⊥
