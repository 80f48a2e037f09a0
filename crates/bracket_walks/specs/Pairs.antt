-- What a pair of brackets is told by, as demand 3 of the request words it: how often a code point stands in a stretch of a text.
-- Definitions only; the laws are in `proofs/Depth.antt`. Assumes nothing.
use Rattle.std.specs.Prelude.{cond, List, [], ◌∷◌, ℕ, suc, ◌+◌, eqb, take, drop}

-- how often x stands in a list
unfoldable pub count : ℕ → List ℕ → ℕ
count x [] = 0
count x (y ∷ rest) = cond (eqb y x) 1 0 + count x rest

-- the text from i to j, both ends counted
unfoldable pub stretch : List ℕ → ℕ → ℕ → List ℕ
stretch t i j = drop i (take (suc j) t)

-- the text from i up to j, j not counted
unfoldable pub up_to : List ℕ → ℕ → ℕ → List ℕ
up_to t i j = drop i (take j t)
