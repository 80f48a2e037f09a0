-- What the contract of `in_ranges` cites: ranges by their starts and lengths.
-- Definitions only; the laws are in `proofs/Lengths.antt`. Assumes nothing.
use Rattle.std.specs.Prelude.{Bool, true, false, ◌&&◌, List, [], ◌∷◌, ℕ, ◌+◌, ◌-◌, ltb}

-- the bounds of the ranges: each start, and the first number after its range
abbrev pub bounds_of : List ℕ → List ℕ → List ℕ
bounds_of [] lengths = []
bounds_of (s ∷ starts) [] = []
bounds_of (s ∷ starts) (n ∷ lengths) = s ∷ (s + n) ∷ bounds_of starts lengths

-- and back: the starts of a table of bounds, and how many numbers each of its ranges has
abbrev pub starts_of : List ℕ → List ℕ
starts_of [] = []
starts_of (s ∷ []) = []
starts_of (s ∷ e ∷ rest) = s ∷ starts_of rest

abbrev pub lengths_of : List ℕ → List ℕ
lengths_of [] = []
lengths_of (s ∷ []) = []
lengths_of (s ∷ e ∷ rest) = (e - s) ∷ lengths_of rest

-- e lies before the first of the starts
abbrev pub before : ℕ → List ℕ → Bool
before e [] = true
before e (s ∷ starts) = ltb e s

-- each start has its length, no length is 0, and each range ends before the next one starts: so they ascend, and no two overlap or touch
abbrev pub apart : List ℕ → List ℕ → Bool
apart [] [] = true
apart [] (n ∷ lengths) = false
apart (s ∷ starts) [] = false
apart (s ∷ starts) (n ∷ lengths) = ltb 0 n && (before (s + n) starts && apart starts lengths)
