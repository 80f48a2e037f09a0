-- Laws of sums of bytes. Assumes nothing.
use Rattle.lists.proofs.Kit.{◌≡◌, List, ℕ, ◌+◌, ◌≤◌, ◌<◌, length, get_or, drop, drop_of_length-le}
use Rattle.lists.proofs.Lists.{drop_at}
use Rattle.fold_blocks.specs.Bytes.{sum}

-- the next byte of a sum
pub sum_at : (l : List ℕ) (i : ℕ) → i < length l → sum (drop i l) ≡ get_or l i 0 + sum (drop (i + 1) l)
unfolding sum
sum_at l i h = rw (drop_at l i h)

pub sum_end : (l : List ℕ) (i : ℕ) → length l ≤ i → sum (drop i l) ≡ 0
unfolding sum
sum_end l i h = rw (drop_of_length-le l h)
