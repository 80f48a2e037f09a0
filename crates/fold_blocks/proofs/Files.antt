-- Lengths of a fold file's parts, and the blocks one after another. Assumes nothing.
use Rattle.lists.proofs.Kit.{◌≡◌, refl, ◌∙◌, List, [], ◌∷◌, ◌++◌, ℕ, zero, suc, ◌+◌, ◌*◌, ◌/◌, ◌≤◌, ◌<◌, arith, length, take, drop, get_or, length-append}
use Rattle.lists.proofs.Kit.{length-replicate, length-take, eq-eqb, ne_eqb}
use Rattle.fold_blocks.specs.Bytes.{four, one, entries}
use Rattle.fold_blocks.specs.Files.{count_in, blocks_for, body, block, blocks, file_of}

pub length_entries : (folds : List ℕ) → length (entries folds) ≡ 9 * count_in folds
unfolding entries
length_entries [] = refl
length_entries (s ∷ []) = refl
length_entries (s ∷ e ∷ []) = refl
length_entries (s ∷ e ∷ c ∷ folds) = omega (arith, length_entries folds)

-- fewer than three numbers are no fold
pub entries_few : (l : List ℕ) → length l ≤ 2 → entries l ≡ []
unfolding entries
entries_few [] h = refl
entries_few (s ∷ []) h = refl
entries_few (s ∷ e ∷ []) h = refl
entries_few (s ∷ e ∷ k ∷ l) h = absurd (omega arith)

-- the next three numbers of what is left
pub entries_next : (l x rest : List ℕ) → l ≡ x ++ rest → length x ≡ 3 →
    entries l ≡ (four (get_or x 0 0) ++ four (get_or x 1 0) ++ one (get_or x 2 0)) ++ entries rest
unfolding entries
entries_next l x rest next three = rw next (go x three)
  where
    go : (x : List ℕ) → length x ≡ 3 → entries (x ++ rest) ≡ (four (get_or x 0 0) ++ four (get_or x 1 0) ++ one (get_or x 2 0)) ++ entries rest
    go [] h = absurd (omega arith)
    go (s ∷ []) h = absurd (omega arith)
    go (s ∷ e ∷ []) h = absurd (omega arith)
    go (s ∷ e ∷ k ∷ []) h = refl
    go (s ∷ e ∷ k ∷ y ∷ x) h = absurd (omega arith)

-- a block is 512 bytes
module _ (n k : ℕ) (folds : List ℕ) (h : length folds ≤ 168) where
  pub length_body : length (body n k folds) ≡ 510
  unfolding body
  length_body = simp (length-append, length-replicate) (omega (arith, length_entries folds))

  pub length_block : length (block n k folds) ≡ 512
  unfolding block
  length_block = length-append (body n k folds) _ ∙ omega (arith, length_body)

take_most : (l : List ℕ) → length (take 168 l) ≤ 168
take_most l = omega (arith, length-take 168 l)

pub length_blocks : (n k left : ℕ) (folds : List ℕ) → length (blocks n k left folds) ≡ 512 * left
unfolding blocks
length_blocks n k zero folds = refl
length_blocks n k (suc left) folds = length-append (block n k (take 168 folds)) _
    ∙ omega (arith, length_block n k (take 168 folds) (take_most folds), length_blocks n (k + 1) left (drop 168 folds))

pub length_file : (folds : List ℕ) → length (file_of folds) ≡ 512 * blocks_for (count_in folds)
unfolding file_of
length_file folds = length_blocks _ _ _ folds

pub blocks_some : (n : ℕ) → 0 < n → blocks_for n ≡ (n + 55) / 56
unfolding blocks_for
blocks_some n h = rw (ne_eqb n 0 (λ z. omega arith))

pub blocks_none : (n : ℕ) → n ≡ 0 → blocks_for n ≡ 1
unfolding blocks_for
blocks_none n h = rw (eq-eqb n 0 h)

pub blocks_few : (n : ℕ) → n ≤ 280 → (1 ≤ blocks_for n) × (blocks_for n ≤ 5)
blocks_few zero h = (omega (arith, blocks_none 0 refl), omega (arith, blocks_none 0 refl))
blocks_few (suc m) h = let by_blocks_some = blocks_some (suc m) (omega arith) in (omega arith, omega arith)
