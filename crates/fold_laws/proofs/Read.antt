-- A file that keeps every rule is the file of the folds that it lists. Assumes nothing.
use Rattle.lists.proofs.Kit.{◌≡◌, refl, ◌∙◌, List, [], ◌∷◌, ◌++◌, append-nil, Bool, true, false, ◌||◌, ℕ, zero, suc, ◌+◌, ◌*◌, ◌/◌, ◌≤◌, ◌<◌, dec_lt, arith}
use Rattle.lists.proofs.Kit.{length, take, drop, length-append, length-drop, take-append-drop, take_at, drop_at, take_all, length-take-le}
use Rattle.lists.specs.Lists.{any}
use Rattle.fold_blocks.specs.Bytes.{entries_in}
use Rattle.fold_blocks.specs.Files.{count_in, blocks_for, block, blocks, file_of}
use Rattle.fold_blocks.specs.Listed.{cut, blocks_of, folds_in, count_of, listed, count_all}
use Rattle.fold_blocks.specs.Layout.{is_torn, broken}
use Rattle.fold_blocks.proofs.Files.{blocks_some, blocks_none}
use Rattle.fold_blocks.proofs.Rules.{broken_first, length_entries_in}
use Rattle.fold_blocks.proofs.Whole.{Whole, length_cut}
use Rattle.fold_laws.proofs.Numbers.{Bytes, bytes_drop, bytes_take}
use Rattle.fold_laws.proofs.BlockRead.{block_back}

-- what the first block lists, and what the others do
first_full : (a l : List ℕ) → length a ≡ 168 → (take 168 (a ++ l) ≡ a) × (drop 168 (a ++ l) ≡ l)
first_full a l e = (take_at a l 168 e, drop_at a l 168 e)

first_last : (a : List ℕ) → length a ≤ 168 → take 168 (a ++ []) ≡ a
first_last a h = rw (append-nil a) (take_all 168 a h)

-- a beginning of 512 bytes
first_size : (f : List ℕ) (left : ℕ) → length f ≡ 512 * suc left → length (take 512 f) ≡ 512
first_size f left e = length-take-le 512 f (omega arith)

any_first : (p : List ℕ → Bool) (b : List ℕ) (l : List (List ℕ)) → any p (b ∷ l) ≡ false → (p b ≡ false) × (any p l ≡ false)
unfolding any
any_first p b l e = go (p b) refl e
  where
    go : (c : Bool) → p b ≡ c → (c || any p l) ≡ false → (p b ≡ false) × (any p l ≡ false)
    go true q h = let never : ◌≡◌ {A = ℕ} 0 1 = cc in absurd (omega arith)
    go false q h = (q, h)

pub read_back : (many n k left : ℕ) (f : List ℕ) → length f ≡ 512 * left → Bytes f → k + left ≡ many → broken many n k (cut left f) ≡ false →
    any is_torn (cut left f) ≡ false → blocks n k left (listed (cut left f)) ≡ f
unfolding cut blocks listed
read_back many n k zero [] size w e r t = refl
read_back many n k zero (x ∷ f) size w e r t = absurd (omega arith)
read_back many n k (suc zero) f size w e r t =
    let front = take 512 f in
    let all : front ≡ f = take_all 512 f (omega arith) in
    let rule = (broken_first many n k front [] r).0 in
    let part = entries_in (count_of front) (drop 4 front) in
    let one : take 168 (part ++ []) ≡ part = first_last part (omega (arith, length_entries_in (count_of front) (drop 4 front), rule.few)) in
    let same = block_back many n k front (first_size f 0 size) (bytes_take 512 f w) rule (any_first is_torn front [] t).0 in
    rw (one, append-nil (block n k part)) (same ∙ all)
read_back many n k (suc (suc left)) f size w e r t =
    let front = take 512 f in
    let rest = drop 512 f in
    let rules = broken_first many n k front (cut (suc left) rest) r in
    let sums = any_first is_torn front (cut (suc left) rest) t in
    let part = entries_in (count_of front) (drop 4 front) in
    let full : count_of front ≡ 56 = rules.0.full (omega arith) in
    let parts = first_full part (listed (cut (suc left) rest)) (omega (arith, length_entries_in (count_of front) (drop 4 front))) in
    let same = block_back many n k front (first_size f (suc left) size) (bytes_take 512 f w) rules.0 sums.0 in
    let behind =
    read_back many n (k + 1) (suc left) rest (omega (arith, length-drop 512 f)) (bytes_drop 512 f w) (omega arith) rules.1 sums.1 in
    rw (parts.0, parts.1, same, behind) (take-append-drop 512 f)

-- how many folds so many blocks hold
pub read_count : (many n k : ℕ) (l : List (List ℕ)) → k + length l ≡ many → broken many n k l ≡ false →
    (count_all l ≤ 56 * length l) × (1 < many → 0 < length l → 56 * length l < count_all l + 56)
unfolding count_all
read_count many n k [] e r = (omega arith, λ x y. absurd (omega arith))
read_count many n k (b ∷ []) e r =
    let rule = (broken_first many n k b [] r).0 in
    (omega (arith, rule.few), λ x y. omega (arith, rule.some x))
read_count many n k (b ∷ d ∷ l) e r =
    let rules = broken_first many n k b (d ∷ l) r in
    let ih = read_count many n (k + 1) (d ∷ l) (omega arith) rules.1 in
    (omega (arith, ih.0, rules.0.few), λ x y. omega (arith, ih.1 x (omega arith), rules.0.full (omega arith)))

pub length_listed : (l : List (List ℕ)) → length (listed l) ≡ 3 * count_all l
unfolding listed count_all
length_listed [] = refl
length_listed (b ∷ l) = length-append (entries_in (count_of b) (drop 4 b)) (listed l) ∙ omega (arith, length_entries_in (count_of b) (drop 4 b), length_listed l)

blocks_are : (many n : ℕ) → 1 ≤ many → n ≤ 56 * many → (1 < many → 56 * many < n + 56) → blocks_for n ≡ many
blocks_are many zero h a b = blocks_none 0 refl ∙ go (dec_lt 1 many)
  where
    go : Dec (1 < many) → 1 ≡ many
    go (yes x) = absurd (omega (arith, b x))
    go (no x) = omega arith
blocks_are many (suc n) h a b = blocks_some (suc n) (omega arith) ∙ go (dec_lt 1 many)
  where
    go : Dec (1 < many) → (suc n + 55) / 56 ≡ many
    go (yes x) = omega (arith, b x)
    go (no x) = omega arith

-- a file refused by none of 18 to 20 is the file of the folds that it lists
pub file_back : (f : List ℕ) → Bytes f → Whole f → file_of (folds_in f) ≡ f
unfolding file_of
file_back f w h =
    let many = length f / 512 in
    let size : length f ≡ 512 * many = omega (arith, h.blocks) in
    let count : count_in (folds_in f) ≡ count_all (blocks_of f) = omega (arith, length_listed (blocks_of f)) in
    let long = length_cut many f in
    let held = read_count many (count_all (blocks_of f)) 0 (blocks_of f) (omega arith) h.laid in
    let for : blocks_for (count_all (blocks_of f)) ≡ many =
    blocks_are many (count_all (blocks_of f)) (omega (arith, h.some)) (omega (arith, held.0)) (λ x. omega (arith, held.1 x (omega (arith, h.some)))) in
    rw (count, for) (read_back many (count_all (blocks_of f)) 0 many f size w (omega arith) h.laid h.sums)
