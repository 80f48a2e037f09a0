-- A file cut into its blocks, one after another, as the loops of the reader go. Assumes nothing.
use Rattle.lists.proofs.Kit.{◌≡◌, List, [], ◌∷◌, ◌++◌, Bool, ◌||◌, false, ℕ, suc, ◌+◌, ◌-◌, ◌/◌, ◌<◌, ap, arith, length, take, drop, length-append, take_at, drop_at}
use Rattle.lists.specs.Lists.{any}
use Rattle.fold_blocks.specs.Bytes.{entries_in}
use Rattle.fold_blocks.specs.Listed.{cut, blocks_of, count_of, listed, count_all}
use Rattle.fold_blocks.specs.Layout.{breaks, broken}

-- the block at an index of bytes, as a part of the file
abbrev pub block_at : List ℕ → ℕ → List ℕ
block_at f at = take (at + 512 - at) (drop at f)

pub block_at_lem : (f : List ℕ) (at : ℕ) → block_at f at ≡ take 512 (drop at f)
block_at_lem f at = let sum_is_lem : at + 512 - at ≡ 512 = omega arith in rw sum_is_lem

-- the next block of what is left
module _ (l x rest : List ℕ) (next : l ≡ x ++ rest) (full : length x ≡ 512) where
  blocks_next : blocks_of l ≡ x ∷ blocks_of rest
  unfolding cut
  blocks_next =
      let many : length l / 512 ≡ suc (length rest / 512) = omega (arith, ap length next, length-append x rest, full) in
      rw (many, next, take_at x rest 512 full, drop_at x rest 512 full)

  pub any_next : (p : List ℕ → Bool) → any p (blocks_of l) ≡ (p x || any p (blocks_of rest))
  unfolding any
  any_next p = rw blocks_next

  pub broken_next : (many n k : ℕ) → broken many n k (blocks_of l) ≡ (breaks many n k x || broken many n (k + 1) (blocks_of rest))
  unfolding broken
  broken_next many n k = rw blocks_next

  pub count_next : count_all (blocks_of l) ≡ count_of x + count_all (blocks_of rest)
  unfolding count_all
  count_next = rw blocks_next

  pub listed_next : listed (blocks_of l) ≡ entries_in (count_of x) (drop 4 x) ++ listed (blocks_of rest)
  unfolding listed
  listed_next = rw blocks_next

-- fewer bytes are no block
module _ (l : List ℕ) (few : length l < 512) where
  blocks_end : blocks_of l ≡ []
  unfolding cut
  blocks_end = let none : length l / 512 ≡ 0 = omega arith in rw none

  pub any_end : (p : List ℕ → Bool) → any p (blocks_of l) ≡ false
  unfolding any
  any_end p = rw blocks_end

  pub broken_end : (many n k : ℕ) → broken many n k (blocks_of l) ≡ false
  unfolding broken
  broken_end many n k = rw blocks_end

  pub count_end : count_all (blocks_of l) ≡ 0
  unfolding count_all
  count_end = rw blocks_end

  pub listed_end : listed (blocks_of l) ≡ []
  unfolding listed
  listed_end = rw blocks_end
