-- What holds of partners, on offsets: the partner's partner is the bracket itself, and two pairs of one kind are the same, or stand apart, or one
-- encloses the other. Both by the arch between partners, which is the same seen from either end. Long, since both laws rest on the arch. Assumes
-- nothing.
use Rattle.lists.proofs.Kit.{◌≡◌, sym, ap, List, ◌⊎◌, inl, inr, ⊎_elim, ℕ, suc, ◌+◌, ◌≤◌, ◌<◌, ℕ_discrete, dec_lt, arith, length, get_or}
use Rattle.bracket_kinds.specs.declared.Kind.{Kind}
use Rattle.bracket_kinds.specs.Kinds.{open_of, close_of}
use Rattle.bracket_laws.specs.Pairs.{Balanced, Forward, Backward, Stand, same, before, behind, around, within}
use Rattle.bracket_walks.proofs.Sides.{differ}
use Rattle.bracket_walks.proofs.Depth.{tally, hit, Level, level_of, even_of}
use Rattle.bracket_laws.proofs.Crossing.{cross}

-- the opens and the closes of a kind before a place
abbrev pub opens : Kind → List ℕ → ℕ → ℕ
opens k t m = tally (open_of k) t m

abbrev pub closes : Kind → List ℕ → ℕ → ℕ
closes k t m = tally (close_of k) t m

-- the depth at b is more than at a
abbrev pub Above : ℕ → ℕ → List ℕ → ℕ → ℕ → Type 0
Above o c t a b = tally o t a + tally c t b < tally o t b + tally c t a

pub balanced_level : {k : Kind} {t : List ℕ} {i j : ℕ} → Balanced k t i j → Level (open_of k) (close_of k) t i (suc j)
balanced_level {k} {t} {i} {j} b = level_of (open_of k) (close_of k) t i j (omega (arith, b.after)) b.even

pub balanced_of : {k : Kind} {t : List ℕ} {i j : ℕ} → i < j → j < length t → get_or t i 0 ≡ open_of k → get_or t j 0 ≡ close_of k
    → Level (open_of k) (close_of k) t i (suc j) → Balanced k t i j
balanced_of {k} {t} {i} {j} l h p q e =
    record { after = l; inside = h; opens = p; closes = q; even = even_of (open_of k) (close_of k) t i j (omega arith) e }

-- an open and a close that balance, with a greater depth everywhere between them
pub record Arch (k : Kind) (t : List ℕ) (i j : ℕ) : Type 0 where
  pub balanced : Balanced k t i j
  pub above : (m : ℕ) → i < m → m ≤ j → Above (open_of k) (close_of k) t i m

module _ {k : Kind} {t : List ℕ} {i j : ℕ} where
  -- a first return to the depth of the open would be a nearer close that balances it
  pub arch_of_forward : Forward k t i j → Arch k t i j
  arch_of_forward f = record { balanced = b; above = λ m l h. up m l h (dec_lt (opens k t i + closes k t m) (opens k t m + closes k t i)) }
    where
      b : Balanced k t i j
      b = f.balanced

      up : (m : ℕ) → i < m → m ≤ j → Dec (Above (open_of k) (close_of k) t i m) → Above (open_of k) (close_of k) t i m
      up m l h (yes a) = a
      up m l h (no a) =
          let by_hit = hit (open_of k) (close_of k) t i (omega (arith, b.after, b.inside)) (differ k) b.opens in
          let by_cross = cross (close_of k) (open_of k) t (opens k t i + 1) (closes k t i) (suc i) m l (omega (arith, b.inside)) (λ e. omega arith)
          (omega arith) in
          let by_hit_t = hit (close_of k) (open_of k) t by_cross.at (omega (arith, by_cross.below, b.inside)) (λ e. differ k (sym e)) by_cross.is in
          let by_nearest = f.nearest by_cross.at
          (balanced_of by_cross.from (omega (arith, by_cross.below, b.inside)) b.opens by_cross.is (omega (arith, by_cross.level))) in
          absurd (omega (arith, by_cross.below))

  -- and a last one before the close a nearer open
  pub arch_of_backward : Backward k t i j → Arch k t i j
  arch_of_backward f = record { balanced = b; above = λ m l h. up m l h (dec_lt (opens k t i + closes k t m) (opens k t m + closes k t i)) }
    where
      b : Balanced k t i j
      b = f.balanced

      up : (m : ℕ) → i < m → m ≤ j → Dec (Above (open_of k) (close_of k) t i m) → Above (open_of k) (close_of k) t i m
      up m l h (yes a) = a
      up m l h (no a) =
          let by_balanced_level = balanced_level b in
          let by_hit = hit (close_of k) (open_of k) t j b.inside (λ e. differ k (sym e)) b.closes in
          let by_cross = cross (open_of k) (close_of k) t (closes k t i) (opens k t i) m j h (omega (arith, b.inside)) (λ e. omega arith) (omega arith) in
          let by_nearest = f.nearest by_cross.at (balanced_of by_cross.below b.inside by_cross.is b.closes (omega (arith, by_cross.level))) in
          absurd (omega (arith, by_cross.from))

  module _ (a : Arch k t i j) where
    pub forward_of_arch : Forward k t i j
    forward_of_arch = record { balanced = a.balanced; nearest = λ m b. no_nearer m b (dec_lt m j) }
      where
        no_nearer : (m : ℕ) → Balanced k t i m → Dec (m < j) → j ≤ m
        no_nearer m b (yes l) = absurd (omega (arith, a.above (suc m) (omega (arith, b.after)) l, balanced_level b))
        no_nearer m b (no l) = omega arith

    pub backward_of_arch : Backward k t i j
    backward_of_arch = record { balanced = a.balanced; nearest = λ m b. no_nearer m b (dec_lt i m) }
      where
        no_nearer : (m : ℕ) → Balanced k t m j → Dec (i < m) → m ≤ i
        no_nearer m b (yes l) = absurd (omega (arith, a.above m l (omega (arith, b.after)), balanced_level b, balanced_level a.balanced))
        no_nearer m b (no l) = omega arith

  -- the partner's partner is the bracket itself
  pub forward_back : Forward k t i j → Backward k t i j
  forward_back f = backward_of_arch (arch_of_forward f)

  pub backward_forward : Backward k t i j → Forward k t i j
  backward_forward b = forward_of_arch (arch_of_backward b)

module _ {k : Kind} {t : List ℕ} where
  -- of two arches, the one that starts later stands behind the other, or in it
  later : {i j i' j' : ℕ} → Arch k t i j → Arch k t i' j' → i < i' → (j < i') ⊎ (j' < j)
  later {i} {j} {i'} {j'} a b l = go (dec_lt j i') (dec_lt j' j) (ℕ_discrete j' j)
    where
      go : Dec (j < i') → Dec (j' < j) → Dec (j' ≡ j) → (j < i') ⊎ (j' < j)
      go (yes p) d e = inl p
      go (no p) (yes q) e = inr q
      go (no p) (no q) (yes e) =
          let tally_is : (x : ℕ) → tally x t (suc j') ≡ tally x t (suc j) = λ x. ap (λ (n : ℕ). tally x t (suc n)) e in
          absurd (omega (
            arith,
            a.above i' l (omega arith),
            balanced_level a.balanced,
            balanced_level b.balanced,
            tally_is (open_of k),
            tally_is (close_of k),
          ))
      go (no p) (no q) (no e) = absurd (omega (arith, a.above i' l (omega arith), balanced_level a.balanced, b.above (suc j) (omega arith) (omega arith)))

  -- two pairs are the same, or stand apart, or one encloses the other
  pub pairs_stand : {i j i' j' : ℕ} → Forward k t i j → Forward k t i' j' → Stand ◌<◌ i j i' j'
  pairs_stand {i} {j} {i'} {j'} f g = go (dec_lt i i') (dec_lt i' i)
    where
      a : Arch k t i j
      a = arch_of_forward f

      b : Arch k t i' j'
      b = arch_of_forward g

      go : Dec (i < i') → Dec (i' < i) → Stand ◌<◌ i j i' j'
      go (yes l) d = ⊎_elim before (λ m. around l m) (later a b l)
      go (no n) (yes l) = ⊎_elim behind (λ m. within l m) (later b a l)
      go (no n) (no m) =
          let i_is : i ≡ i' = omega arith in
          same i_is (omega (arith, f.nearest j' (rw i_is g.balanced), g.nearest j (rw (← i_is) f.balanced)))
