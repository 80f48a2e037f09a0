-- Entries from bytes and back. Assumes nothing.
use Rattle.lists.proofs.Kit.{◌≡◌, refl, List, [], ◌∷◌, ◌++◌, Bool, true, false, not, ◌||◌, ℕ, zero, suc, ◌+◌, ◌*◌, ◌/◌, ◌%◌, ◌≤◌, ◌<◌, arith, length, take}
use Rattle.lists.proofs.Kit.{replicate, eqb, eqb-true}
use Rattle.lists.specs.Lists.{any}
use Rattle.fold_blocks.specs.Bytes.{entries, entries_in}
use Rattle.fold_blocks.specs.Layout.{is_used}
use Rattle.fold_laws.proofs.Numbers.{Bytes, Small}

-- the four bytes of a number, by their values, and back
digits : (a b c d : ℕ) → a < 256 → b < 256 → c < 256 → d < 256 →
    let sum = a + 256 * b + 65536 * c + 16777216 * d in (sum % 256 ≡ a) × (sum / 256 % 256 ≡ b) × (sum / 65536 % 256 ≡ c) × (sum / 16777216 % 256 ≡ d)
digits a b c d h i j k =
    let sum = a + 256 * b + 65536 * c + 16777216 * d in
    let first : sum / 256 ≡ b + 256 * c + 65536 * d = omega arith in
    let second : sum / 65536 ≡ c + 256 * d = omega arith in
    let third : sum / 16777216 ≡ d = omega arith in
    (omega arith, omega (arith, first), omega (arith, second), omega (arith, third))

digits_back : (s : ℕ) → s < 4294967296 → s % 256 + 256 * (s / 256 % 256) + 65536 * (s / 65536 % 256) + 16777216 * (s / 16777216 % 256) ≡ s
digits_back s h =
    let first : s ≡ s % 256 + 256 * (s / 256) = omega arith in
    let second : s / 256 ≡ s / 256 % 256 + 256 * (s / 65536) = omega arith in
    let third : s / 65536 ≡ s / 65536 % 256 + 256 * (s / 16777216) = omega arith in
    let last : s / 16777216 < 256 = omega arith in
    let top : s / 16777216 % 256 ≡ s / 16777216 = omega (arith, last) in
    omega (arith, first, second, third, top)

-- the entries of n folds that were read are the bytes that they were read from
pub entries_of : (n : ℕ) (l : List ℕ) → Bytes l → 9 * n ≤ length l → entries (entries_in n l) ≡ take (9 * n) l
unfolding Bytes entries entries_in
entries_of zero l b h = refl
entries_of (suc n) (s0 ∷ s1 ∷ s2 ∷ s3 ∷ e0 ∷ e1 ∷ e2 ∷ e3 ∷ c ∷ l) b h =
    let nine : 9 * suc n ≡ suc (suc (suc (suc (suc (suc (suc (suc (suc (9 * n))))))))) = omega arith in
    let b1 = b.1 in
    let b2 = b1.1 in
    let b3 = b2.1 in
    let b4 = b3.1 in
    let b5 = b4.1 in
    let b6 = b5.1 in
    let b7 = b6.1 in
    let b8 = b7.1 in
    let by_digits = digits s0 s1 s2 s3 b.0 b1.0 b2.0 b3.0 in
    let by_digits_e0 = digits e0 e1 e2 e3 b4.0 b5.0 b6.0 b7.0 in
    let remainder_is : c % 256 ≡ c = omega (arith, b8.0) in
    rw (
      nine,
      by_digits.0,
      by_digits.1,
      by_digits.2,
      by_digits.3,
      by_digits_e0.0,
      by_digits_e0.1,
      by_digits_e0.2,
      by_digits_e0.3,
      remainder_is,
      entries_of n l b8.1 (omega arith),
    )
entries_of (suc n) [] b h = absurd (omega arith)
entries_of (suc n) (a ∷ []) b h = absurd (omega arith)
entries_of (suc n) (a ∷ a1 ∷ []) b h = absurd (omega arith)
entries_of (suc n) (a ∷ a1 ∷ a2 ∷ []) b h = absurd (omega arith)
entries_of (suc n) (a ∷ a1 ∷ a2 ∷ a3 ∷ []) b h = absurd (omega arith)
entries_of (suc n) (a ∷ a1 ∷ a2 ∷ a3 ∷ a4 ∷ []) b h = absurd (omega arith)
entries_of (suc n) (a ∷ a1 ∷ a2 ∷ a3 ∷ a4 ∷ a5 ∷ []) b h = absurd (omega arith)
entries_of (suc n) (a ∷ a1 ∷ a2 ∷ a3 ∷ a4 ∷ a5 ∷ a6 ∷ []) b h = absurd (omega arith)
entries_of (suc n) (a ∷ a1 ∷ a2 ∷ a3 ∷ a4 ∷ a5 ∷ a6 ∷ a7 ∷ []) b h = absurd (omega arith)

-- the folds read from their own entries
pub entries_back : (folds rest : List ℕ) (n : ℕ) → Small folds → n ≡ length folds / 3 → entries_in n (entries folds ++ rest) ≡ folds
unfolding Small entries entries_in
entries_back [] rest n h e = rw e
entries_back (s ∷ []) rest n h e = absurd h
entries_back (s ∷ f ∷ []) rest n h e = absurd h
entries_back (s ∷ f ∷ c ∷ l) rest n h e =
    let more : n ≡ suc (length l / 3) = omega arith in
    let remainder_is : c % 256 ≡ c = omega (arith, h.2) in
    rw (more, digits_back s h.0, digits_back f h.1, remainder_is, entries_back l rest (length l / 3) h.3 refl)

-- bytes of which none is used are zeros, and zeros are unused
pub zeros_of : (l : List ℕ) → any is_used l ≡ false → l ≡ replicate (length l) 0
unfolding any
zeros_of [] e = refl
zeros_of (x ∷ l) e = go (eqb x 0) refl e (λ q. zeros_of l q)
  where
    go : (b : Bool) → eqb x 0 ≡ b → (not b || any is_used l) ≡ false → (any is_used l ≡ false → l ≡ replicate (length l) 0) →
        (x ∷ l) ≡ replicate (length (x ∷ l)) 0
    go true p q ih = let x_is : x ≡ 0 = eqb-true _ _ p in λ i. x_is i ∷ ih q i
    go false p q ih = let never : ◌≡◌ {A = ℕ} 0 1 = cc in absurd (omega arith)

pub zeros_unused : (n : ℕ) → any is_used (replicate n 0) ≡ false
unfolding any
zeros_unused zero = refl
zeros_unused (suc n) = zeros_unused n
