-- What the contracts of `up_to` and `in_table` cite: a table of bounds, and the numbers that it holds.
-- Definitions only; the laws are in `proofs/Ascending.antt` and `proofs/Bounds.antt`. Assumes nothing.
use Rattle.std.specs.Prelude.{Bool, true, false, ◌&&◌, ◌||◌, List, [], ◌∷◌, ℕ, ◌≤◌, ◌<◌, leb, ltb, length, get_or}

-- x lies in a range of the table, s ≤ x < e; a last bound that stands alone begins a range without end
abbrev pub in_table : ℕ → List ℕ → Bool
in_table x [] = false
in_table x (s ∷ []) = leb s x
in_table x (s ∷ e ∷ rest) = (leb s x && ltb x e) || in_table x rest

-- b is below the first of the bounds, and each of these below the next
abbrev pub climbs : ℕ → List ℕ → Bool
climbs b [] = true
climbs b (a ∷ rest) = ltb b a && climbs a rest

-- each bound is below the next: no range is empty, and no two overlap or touch
abbrev pub ascending : List ℕ → Bool
ascending [] = true
ascending (b ∷ rest) = climbs b rest

-- x is below the numbers of the table from `end` on
pub record BelowFrom (table : List ℕ) (x end : ℕ) : Type 0 where
  pub inside : end ≤ length table
  pub above : (k : ℕ) → end ≤ k → k < length table → x < get_or table k 0

-- the first r numbers of the table are at most x, and those after them are above it
pub record UpTo (table : List ℕ) (x r : ℕ) : Type 0 where
  pub inside : r ≤ length table
  pub below : (k : ℕ) → k < r → get_or table k 0 ≤ x
  pub above : (k : ℕ) → r ≤ k → k < length table → x < get_or table k 0
