-- One byte changed: the sum of its block doesn't fit any more. Assumes nothing.
use Rattle.lists.proofs.Kit.{◌≡◌, refl, ap, sym, ◌∙◌, List, [], ◌∷◌, Bool, true, false, not, ◌||◌, or-true, ℕ, zero, suc, ◌+◌, ◌*◌, ◌-◌, ◌/◌, ◌%◌, ◌≤◌, ◌<◌}
use Rattle.lists.proofs.Kit.{dec_lt, arith, length, take, drop, get_or, set, length-set, length-drop, take-set-le, take-set-lt, drop-set-add, get_or-set_same}
use Rattle.lists.proofs.Kit.{get_or-set_other, get_or-take, get_or-drop, length-take-le, eqb, not-false, eqb-true, eq-eqb, ne_eqb, le-ltb}
use Rattle.lists.specs.Lists.{any}
use Rattle.fold_blocks.specs.Bytes.{sum}
use Rattle.fold_blocks.specs.Listed.{cut, sum_of}
use Rattle.fold_blocks.specs.Layout.{is_torn, is_uncut, layout_refusal}
use Rattle.fold_blocks.proofs.Whole.{Whole}
use Rattle.fold_laws.proofs.Numbers.{Bytes, bytes_at, bytes_take, bytes_drop}

-- the sum moves by the difference
sum_set : (l : List ℕ) (i v : ℕ) → i < length l → sum (set l i v) + get_or l i 0 ≡ sum l + v
unfolding sum
sum_set [] i v h = absurd (omega arith)
sum_set (x ∷ l) zero v h = omega arith
sum_set (x ∷ l) (suc i) v h = omega (arith, sum_set l i v (omega arith))

-- a byte before the sum
torn_body : (b : List ℕ) (i v : ℕ) → length b ≡ 512 → i < 510 → v < 256 → get_or b i 0 < 256 → (v ≡ get_or b i 0 → ⊥) → is_torn b ≡ false → is_torn (set b i v) ≡ true
unfolding is_torn
torn_body b i v size h small old new e =
    let fits : sum_of b ≡ sum (take 510 b) % 65536 = eqb-true _ _ (not-false _ e) in
    let moved = sum_set (take 510 b) i v (omega (arith, length-take-le 510 b (omega arith))) in
    let was : get_or (take 510 b) i 0 ≡ get_or b i 0 = get_or-take 510 b i 0 h in
    rw (
      take-set-lt 510 b i v h,
      get_or-set_other b i 510 v 0 (λ z. omega arith),
      get_or-set_other b i 511 v 0 (λ z. omega arith),
      ne_eqb (sum_of b) (sum (set (take 510 b) i v) % 65536) (λ z. differ (sum (take 510 b)) (sum (set (take 510 b) i v)) (get_or b i 0) v
          (omega (arith, moved, was)) small old new (sym fits ∙ z)),
    )
  where
    differ : (s t x y : ℕ) → t + x ≡ s + y → y < 256 → x < 256 → (y ≡ x → ⊥) → s % 65536 ≡ t % 65536 → ⊥
    differ s t x y p q r d m = d (omega arith)

-- a byte of the sum
torn_sum : (b : List ℕ) (i v : ℕ) → length b ≡ 512 → 510 ≤ i → i < 512 → (v ≡ get_or b i 0 → ⊥) → v < 256 → Bytes b → is_torn b ≡ false → is_torn (set b i v) ≡ true
unfolding is_torn
torn_sum b i v size low high new small w e = go (dec_lt i 511)
  where
    fits : sum_of b ≡ sum (take 510 b) % 65536
    fits = eqb-true _ _ (not-false _ e)

    go : Dec (i < 511) → not (eqb (sum_of (set b i v)) (sum (take 510 (set b i v)) % 65536)) ≡ true
    go (yes h) =
        let at : i ≡ 510 = omega arith in
        rw (take-set-le 510 b i v low, at, get_or-set_same b 510 v 0 (omega arith), get_or-set_other b 510 511 v 0 (λ z. omega arith))
        (ap not (ne_eqb (v + 256 * get_or b 511 0) (sum (take 510 b) % 65536) (λ z. new (omega (arith, fits, z, ap (λ (j : ℕ). get_or b j 0) at)))))
    go (no h) =
        let at : i ≡ 511 = omega arith in
        rw (take-set-le 510 b i v low, at, get_or-set_same b 511 v 0 (omega arith), get_or-set_other b 511 510 v 0 (λ z. omega arith))
        (ap not (ne_eqb (get_or b 510 0 + 256 * v) (sum (take 510 b) % 65536) (λ z. new (omega (arith, fits, z, ap (λ (j : ℕ). get_or b j 0) at)))))

torn_block : (b : List ℕ) (i v : ℕ) → length b ≡ 512 → i < 512 → v < 256 → Bytes b → (v ≡ get_or b i 0 → ⊥) → is_torn b ≡ false → is_torn (set b i v) ≡ true
torn_block b i v size h small w new e = go (dec_lt i 510)
  where
    go : Dec (i < 510) → is_torn (set b i v) ≡ true
    go (yes l) = torn_body b i v size l small (bytes_at b i w) new e
    go (no l) = torn_sum b i v size (omega arith) h new small w e

any_first : (p : List ℕ → Bool) (b : List ℕ) (l : List (List ℕ)) → any p (b ∷ l) ≡ false → (p b ≡ false) × (any p l ≡ false)
unfolding any
any_first p b l e = go (p b) refl e
  where
    go : (c : Bool) → p b ≡ c → (c || any p l) ≡ false → (p b ≡ false) × (any p l ≡ false)
    go true q h = let never : ◌≡◌ {A = ℕ} 0 1 = cc in absurd (omega arith)
    go false q h = (q, h)

torn_one : (m : ℕ) (f : List ℕ) (i v : ℕ) → length f ≡ 512 * m → i < length f → v < 256 → Bytes f → (v ≡ get_or f i 0 → ⊥) → any is_torn (cut m f) ≡ false →
    any is_torn (cut m (set f i v)) ≡ true
unfolding cut any
torn_one zero f i v size h small w new e = absurd (omega arith)
torn_one (suc m) f i v size h small w new e =
    let parts = any_first is_torn (take 512 f) (cut m (drop 512 f)) e in
    go (dec_lt i 512) parts.0 (λ j p q r. torn_one m (drop 512 f) j v p q small (bytes_drop 512 f w) r parts.1)
  where
    go : Dec (i < 512) → is_torn (take 512 f) ≡ false → ((j : ℕ) → length (drop 512 f) ≡ 512 * m → j < length (drop 512 f) → (v ≡ get_or (drop 512 f) j 0 → ⊥) →
        any is_torn (cut m (set (drop 512 f) j v)) ≡ true) → (is_torn (take 512 (set f i v)) || any is_torn (cut m (drop 512 (set f i v)))) ≡ true
    go (yes l) first ih =
        let size_b = length-take-le 512 f (omega arith) in
        let by_torn_block = torn_block (take 512 f) i v size_b l small (bytes_take 512 f w) (λ z. new (z ∙ get_or-take 512 f i 0 l)) first in
        rw (take-set-lt 512 f i v l, by_torn_block)
    go (no l) first ih =
        let j = i - 512 in
        let at : i ≡ 512 + j = omega arith in
        let there : get_or (drop 512 f) j 0 ≡ get_or f i 0 = get_or-drop 512 f j 0 ∙ ap (λ (x : ℕ). get_or f x 0) (sym at) in
        let by_ih = ih j (omega (arith, length-drop 512 f)) (omega (arith, length-drop 512 f)) (λ z. new (z ∙ there)) in
        let moved : drop 512 (set f i v) ≡ set (drop 512 f) j v = ap (λ (x : ℕ). drop 512 (set f x v)) at ∙ drop-set-add 512 f j v in
        rw (moved, by_ih, or-true)

-- a file that is whole is refused with 19 once one byte is changed
pub changed_torn : (f : List ℕ) (i v : ℕ) → Whole f → i < length f → v < 256 → Bytes f → (v ≡ get_or f i 0 → ⊥) → layout_refusal (set f i v) ≡ 19
unfolding layout_refusal is_uncut
changed_torn f i v u h small w new =
    let size = length-set f i v in
    let torn = torn_one (length f / 512) f i v (omega (arith, u.blocks)) h small w new u.sums in
    rw (
      size,
      eq-eqb (length f % 512) 0 u.blocks,
      ne_eqb (length f) 0 (λ z. omega (arith, u.some)),
      le-ltb 2560 (length f) u.short,
      torn,
    )
