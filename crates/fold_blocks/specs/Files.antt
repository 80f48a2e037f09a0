-- The file of a fold list, block by block. Document 02, #111.
-- Definitions only; the laws are in `proofs/`. Assumes nothing.
use Rattle.std.specs.Prelude.{ℕ, zero, suc, ◌+◌, ◌*◌, ◌-◌, ◌/◌, ◌%◌, List, [], ◌++◌, cond, eqb, length, take, drop, replicate}
use Rattle.fold_blocks.specs.Bytes.{two, entries, sum}

-- how many folds a list has, three numbers each
abbrev pub count_in : List ℕ → ℕ
count_in folds = length folds / 3

-- how many blocks n folds take, 56 in each: one where there are none
unfoldable pub blocks_for : ℕ → ℕ
blocks_for n = cond (eqb n 0) 1 ((n + 55) / 56)

-- the first 510 bytes of block k of a file of n folds: its number, the folds in it, their entries and zeros for the unused ones, folds in the whole file
unfoldable pub body : ℕ → ℕ → List ℕ → List ℕ
body n k folds = two k ++ two (count_in folds) ++ entries folds ++ replicate (504 - 9 * count_in folds) 0 ++ two n

-- with their sum behind them
unfoldable pub block : ℕ → ℕ → List ℕ → List ℕ
block n k folds = body n k folds ++ two (sum (body n k folds) % 65536)

-- so many blocks from block k on: each takes the next 56 folds, as far as they go
unfoldable pub blocks : ℕ → ℕ → ℕ → List ℕ → List ℕ
blocks n k zero folds = []
blocks n k (suc left) folds = block n k (take 168 folds) ++ blocks n (k + 1) left (drop 168 folds)

-- the file of folds
unfoldable pub file_of : List ℕ → List ℕ
file_of folds = blocks (count_in folds) 0 (blocks_for (count_in folds)) folds
