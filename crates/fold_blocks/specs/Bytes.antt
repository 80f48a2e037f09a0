-- Numbers and folds as bytes, the lowest byte first, and back. Document 02, #111.
-- Definitions only; the laws are in `proofs/`. Assumes nothing.
use Rattle.std.specs.Prelude.{◌≡◌, ℕ, zero, suc, ◌+◌, ◌*◌, ◌/◌, ◌%◌, ◌≤◌, List, [], ◌∷◌, ◌++◌, get_or, drop}

-- a number in one, two or four bytes
abbrev pub one : ℕ → List ℕ
one x = (x % 256) ∷ []

abbrev pub two : ℕ → List ℕ
two x = (x % 256) ∷ (x / 256 % 256) ∷ []

abbrev pub four : ℕ → List ℕ
four x = (x % 256) ∷ (x / 256 % 256) ∷ (x / 65536 % 256) ∷ (x / 16777216 % 256) ∷ []

-- the number that two or four bytes from an index on make
abbrev pub two_at : List ℕ → ℕ → ℕ
two_at b i = get_or b i 0 + 256 * get_or b (i + 1) 0

abbrev pub four_at : List ℕ → ℕ → ℕ
four_at b i = get_or b i 0 + 256 * get_or b (i + 1) 0 + 65536 * get_or b (i + 2) 0 + 16777216 * get_or b (i + 3) 0

-- r is the number n, which is small
pub record Number (n most r : ℕ) : Type 0 where
  pub same : r ≡ n
  pub small : r ≤ most

-- the entries of folds, 9 bytes each: start, end, closed
unfoldable pub entries : List ℕ → List ℕ
entries [] = []
entries (s ∷ []) = []
entries (s ∷ e ∷ []) = []
entries (s ∷ e ∷ closed ∷ folds) = four s ++ four e ++ one closed ++ entries folds

-- the fold of the entry at an index
abbrev pub entry_at : List ℕ → ℕ → List ℕ
entry_at b i = four_at b i ∷ four_at b (i + 4) ∷ get_or b (i + 8) 0 ∷ []

-- the folds of n entries
unfoldable pub entries_in : ℕ → List ℕ → List ℕ
entries_in zero b = []
entries_in (suc n) b = entry_at b 0 ++ entries_in n (drop 9 b)

-- the sum of bytes
unfoldable pub sum : List ℕ → ℕ
sum [] = 0
sum (x ∷ l) = x + sum l
