-- The first and the last place that passes a test: what a walk seeks.
-- Definitions only; the laws are in `proofs/Nearest.antt` and `proofs/Told.antt`. Assumes nothing.
use Rattle.std.specs.Prelude.{Bool, cond, ℕ, zero, suc, ◌-◌, Option, Some, None}

-- the first of the n places from i on. n is exact: in `first_in` it is the places up to b (`from_suc`)
unfoldable pub first_from : (ℕ → Bool) → ℕ → ℕ → Option ℕ
first_from p i zero = None
first_from p i (suc n) = let rest = first_from p (suc i) n in cond (p i) (Some i) rest

-- the first from i up to b, b not counted
abbrev pub first_in : (ℕ → Bool) → ℕ → ℕ → Option ℕ
first_in p i b = first_from p i (b - i)

-- the last below b
unfoldable pub last_below : (ℕ → Bool) → ℕ → Option ℕ
last_below p zero = None
last_below p (suc i) = let rest = last_below p i in cond (p i) (Some i) rest
