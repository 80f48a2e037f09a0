-- The blocks of folds keep every rule, and the folds that they list are those they were written of. Assumes nothing.
use Rattle.lists.proofs.Kit.{◌≡◌, refl, List, [], ◌∷◌, false, ℕ, zero, suc, ◌+◌, ◌*◌, ◌≤◌, ◌<◌, arith, length, take, drop, length-take, length-drop}
use Rattle.lists.proofs.Kit.{take-append-drop, take_at, drop_at}
use Rattle.lists.specs.Lists.{any}
use Rattle.fold_blocks.specs.Files.{count_in, block, blocks}
use Rattle.fold_blocks.specs.Listed.{cut, count_of, listed, count_all}
use Rattle.fold_blocks.specs.Layout.{is_torn, broken}
use Rattle.fold_blocks.proofs.Files.{length_block}
use Rattle.fold_blocks.proofs.Rules.{Keeps, kept}
use Rattle.fold_laws.proofs.Numbers.{Small, small_take, small_drop}
use Rattle.fold_laws.proofs.Blocks.{block_number, block_count, block_total, block_whole, block_unused, block_entries}

take_most : (l : List ℕ) → length (take 168 l) ≤ 168
take_most l = omega (arith, length-take 168 l)

-- the first of the blocks, cut off again
module _ (n k left : ℕ) (l : List ℕ) where
  cut_blocks : cut (suc left) (blocks n k (suc left) l) ≡ block n k (take 168 l) ∷ cut left (blocks n (k + 1) left (drop 168 l))
  unfolding cut blocks
  cut_blocks =
      let first = block n k (take 168 l) in
      let size = length_block n k (take 168 l) (take_most l) in
      rw (take_at first _ 512 size, drop_at first _ 512 size)

cut_none : (n k : ℕ) (l : List ℕ) → cut 0 (blocks n k 0 l) ≡ []
unfolding cut
cut_none n k l = refl

-- how many folds stand in the first block and behind it
count_parts : (l : List ℕ) → count_in (take 168 l) + count_in (drop 168 l) ≡ count_in l
count_parts l = omega (arith, length-take 168 l, length-drop 168 l)

pub written_whole : (n k left : ℕ) (l : List ℕ) → any is_torn (cut left (blocks n k left l)) ≡ false
unfolding any
written_whole n k zero l = rw (cut_none n k l)
written_whole n k (suc left) l = rw (cut_blocks n k left l, block_whole n k (take 168 l) (take_most l), written_whole n (k + 1) left (drop 168 l))

pub written_count : (n k left : ℕ) (l : List ℕ) → count_in l ≤ 56 * left → count_all (cut left (blocks n k left l)) ≡ count_in l
unfolding count_all
written_count n k zero l h = rw (cut_none n k l) (omega arith)
written_count n k (suc left) l h = rw (
  cut_blocks n k left l,
  block_count n k (take 168 l) (take_most l),
  written_count n (k + 1) left (drop 168 l) (omega (arith, length-drop 168 l)),
) (count_parts l)

pub written_listed : (n k left : ℕ) (l : List ℕ) → Small l → count_in l ≤ 56 * left → listed (cut left (blocks n k left l)) ≡ l
unfolding listed Small
written_listed n k zero [] s h = rw (cut_none n k [])
written_listed n k zero (a ∷ []) s h = absurd s
written_listed n k zero (a ∷ b ∷ []) s h = absurd s
written_listed n k zero (a ∷ b ∷ c ∷ l) s h = absurd (omega arith)
written_listed n k (suc left) l s h = rw (
  cut_blocks n k left l,
  block_entries n k (take 168 l) (take_most l) (small_take 56 l s),
  written_listed n (k + 1) left (drop 168 l) (small_drop 56 l s) (omega (arith, length-drop 168 l)),
) (take-append-drop 168 l)

-- every block but the last is full, and the last is not empty unless it is the only one
pub written_kept :
    (many n k left : ℕ) (l : List ℕ) → k + left ≡ many → many < 65536 → n < 65536 → count_in l ≤ 56 * left → (1 < many → 0 < left → 56 * left < count_in l + 56) →
    broken many n k (cut left (blocks n k left l)) ≡ false
unfolding broken
written_kept many n k zero l e m t h g = rw (cut_none n k l)
written_kept many n k (suc left) l e m t h g =
    let front = take 168 l in
    let few = take_most l in
    let block_here = block n k front in
    let count : count_of block_here ≡ count_in front = block_count n k front few in
    let keeps : Keeps many n k block_here =
    record {
      number = block_number n k front few (omega arith);
      few = omega (arith, count);
      full = λ x. omega (arith, count, length-take 168 l, g (omega arith) (omega arith));
      some = λ x. omega (arith, count, length-take 168 l, g x (omega arith));
      unused = block_unused n k front few;
      total = block_total n k front few t;
    } in
    rw (cut_blocks n k left l, kept many n k block_here keeps)
    (written_kept many n (k + 1) left (drop 168 l) (omega arith) m t (omega (arith, length-drop 168 l))
    (λ x y. omega (arith, length-drop 168 l, g x (omega arith))))
