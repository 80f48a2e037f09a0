-- The rules that a file is refused by: 18 its length, 19 a sum, 20 the layout. Document 02, #111.
-- Definitions only. That the rules of 20 hold exactly of the file of the folds listed: `laid_same` of `fold_laws`. Assumes nothing.
use Rattle.std.specs.Prelude.{ℕ, ◌+◌, ◌*◌, ◌/◌, ◌%◌, List, [], ◌∷◌, Bool, false, cond, not, ◌&&◌, ◌||◌, eqb, ltb, leb, length, take, drop}
use Rattle.lists.specs.Lists.{any}
use Rattle.fold_blocks.specs.Bytes.{sum}
use Rattle.fold_blocks.specs.Listed.{blocks_of, number_of, count_of, total_of, sum_of, count_all}

-- 18: not 1 to 5 blocks
unfoldable pub is_uncut : List ℕ → Bool
is_uncut f = not (eqb (length f % 512) 0) || (eqb (length f) 0 || ltb 2560 (length f))

-- 19: the sum doesn't fit the first 510 bytes
unfoldable pub is_torn : List ℕ → Bool
is_torn b = not (eqb (sum_of b) (sum (take 510 b) % 65536))

abbrev pub is_used : ℕ → Bool
is_used x = not (eqb x 0)

-- 20, of block k of so many in a file of n folds. A rule is broken: its number isn't k; it has more than 56 folds; it isn't the last and not full; it is
-- empty and not the only one; a byte of an unused entry isn't 0; it gives another number for the whole file
unfoldable pub breaks : ℕ → ℕ → ℕ → List ℕ → Bool
breaks many n k b =
    not (eqb (number_of b) k)
    || (ltb 56 (count_of b)
    || ((ltb (k + 1) many && not (eqb (count_of b) 56))
    || ((ltb 1 many && eqb (count_of b) 0)
    || (any is_used (drop (4 + 9 * count_of b) (take 508 b))
    || not (eqb (total_of b) n)))))

unfoldable pub broken : ℕ → ℕ → ℕ → List (List ℕ) → Bool
broken many n k [] = false
broken many n k (b ∷ l) = breaks many n k b || broken many n (k + 1) l

abbrev pub is_broken : List ℕ → Bool
is_broken f = broken (length f / 512) (count_all (blocks_of f)) 0 (blocks_of f)

-- the number that a file is refused with, 0 where it is whole
unfoldable pub layout_refusal : List ℕ → ℕ
layout_refusal f = cond (is_uncut f) 18 (cond (any is_torn (blocks_of f)) 19 (cond (is_broken f) 20 0))

-- 14: too little room for so many places
unfoldable pub room_refusal : ℕ → ℕ → ℕ
room_refusal n room = cond (leb n room) 0 14
