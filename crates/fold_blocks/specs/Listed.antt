-- A file cut into its blocks, what each says of itself, and the folds that they list. Document 02, #111.
-- Definitions only; the laws are in `proofs/`. Assumes nothing.
use Rattle.std.specs.Prelude.{ℕ, zero, suc, ◌+◌, ◌/◌, List, [], ◌∷◌, ◌++◌, length, take, drop}
use Rattle.fold_blocks.specs.Bytes.{two_at, entries_in}

-- n blocks of 512 bytes
unfoldable pub cut : ℕ → List ℕ → List (List ℕ)
cut zero f = []
cut (suc n) f = take 512 f ∷ cut n (drop 512 f)

abbrev pub blocks_of : List ℕ → List (List ℕ)
blocks_of f = cut (length f / 512) f

-- what a block says of itself: its number, the folds in it, those in the whole file, its sum
abbrev pub number_of : List ℕ → ℕ
number_of b = two_at b 0

abbrev pub count_of : List ℕ → ℕ
count_of b = two_at b 2

abbrev pub total_of : List ℕ → ℕ
total_of b = two_at b 508

abbrev pub sum_of : List ℕ → ℕ
sum_of b = two_at b 510

-- the folds that blocks list, and how many they say there are
unfoldable pub listed : List (List ℕ) → List ℕ
listed [] = []
listed (b ∷ l) = entries_in (count_of b) (drop 4 b) ++ listed l

unfoldable pub count_all : List (List ℕ) → ℕ
count_all [] = 0
count_all (b ∷ l) = count_of b + count_all l

abbrev pub folds_in : List ℕ → List ℕ
folds_in f = listed (blocks_of f)
