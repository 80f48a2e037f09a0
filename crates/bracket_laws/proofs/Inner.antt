-- What stands between two partners: each bracket of their kind there has its partner there. For pairs that enclose a place.
-- Assumes nothing.
use Rattle.lists.proofs.Kit.{◌≡◌, refl, sym, ap, List, ℕ, suc, ◌+◌, ◌≤◌, ◌<◌, ℕ_discrete, arith, length, get_or, Option, Some, None}
use Rattle.bracket_kinds.specs.declared.Kind.{Kind}
use Rattle.bracket_kinds.specs.declared.Side.TheVariants.{Open, Close}
use Rattle.bracket_kinds.specs.Kinds.{open_of, close_of}
use Rattle.bracket_laws.specs.Pairs.{Balanced, Forward}
use Rattle.bracket_walks.specs.Matching.{nearest_of}
use Rattle.bracket_walks.proofs.Sides.{differ}
use Rattle.bracket_walks.proofs.Depth.{tally, hit}
use Rattle.bracket_laws.proofs.Crossing.{cross}
use Rattle.bracket_laws.proofs.Pairs.{opens, closes, balanced_level, balanced_of, arch_of_forward, backward_forward}
use Rattle.bracket_laws.proofs.Answers.{forward_told, forward_none, backward_told, backward_none}

module _ {k : Kind} {t : List ℕ} {i j : ℕ} (f : Forward k t i j) (m : ℕ) (l : i < m) (h : m < j) where
  -- the depth at m is more than at i, and so the text comes back to it before j
  pub inner_open_lem : get_or t m 0 ≡ open_of k → (n : ℕ) × Forward k t m n × (n < j)
  inner_open_lem e = on (nearest_of (Open k) t m) refl
    where
      b : Balanced k t i j
      b = f.balanced

      back : (n : ℕ) × Balanced k t m n × (n ≤ j)
      back =
          let up = (arch_of_forward f).above m l (omega arith) in
          let by_balanced_level = balanced_level b in
          let by_hit = hit (open_of k) (close_of k) t m (omega (arith, b.inside)) (differ k) e in
          let by_cross = cross (close_of k) (open_of k) t (opens k t m + 1) (closes k t m) (suc m) (suc j) (omega arith) b.inside (λ p. omega arith)
          (omega arith) in
          let by_hit_t = hit (close_of k) (open_of k) t by_cross.at (omega (arith, by_cross.below, b.inside)) (λ p. differ k (sym p)) by_cross.is in (
            by_cross.at,
            balanced_of by_cross.from (omega (arith, by_cross.below, b.inside)) e by_cross.is (omega (arith, by_cross.level)),
            omega (arith, by_cross.below),
          )

      on : (r : Option ℕ) → nearest_of (Open k) t m ≡ r → (n : ℕ) × Forward k t m n × (n < j)
      on (Some n) s =
          let by_forward_told = forward_told k t m n s in
          let by_balanced_level = balanced_level by_forward_told.balanced in
          (n, by_forward_told, apart n (by_forward_told.nearest back.0 back.1) by_forward_told.balanced (ℕ_discrete n j))
        where
          apart : (n : ℕ) → n ≤ back.0 → Balanced k t m n → Dec (n ≡ j) → n < j
          apart n p g (yes q) =
              let at : (x : ℕ) → tally x t (suc n) ≡ tally x t (suc j) = λ x. ap (λ (z : ℕ). tally x t (suc z)) q in
              absurd (omega (arith, (arch_of_forward f).above m l (omega arith), balanced_level b, balanced_level g, at (open_of k), at (close_of k)))
          apart n p g (no q) = omega (arith, back.2)
      on None s = absurd (forward_none k t m s back.0 back.1)

  pub inner_close : get_or t m 0 ≡ close_of k → (n : ℕ) × Forward k t n m × (i < n)
  inner_close e = on (nearest_of (Close k) t m) refl
    where
      b : Balanced k t i j
      b = f.balanced

      within : m < length t
      within = omega (arith, b.inside)

      back : (n : ℕ) × Balanced k t n m × (i ≤ n)
      back =
          let up = (arch_of_forward f).above (suc m) (omega arith) h in
          let by_hit = hit (close_of k) (open_of k) t m within (λ p. differ k (sym p)) e in
          let by_cross = cross (open_of k) (close_of k) t (closes k t (suc m)) (opens k t (suc m)) i m (omega arith) (omega (arith, within)) (λ p. omega arith)
          (omega arith) in
          (by_cross.at, balanced_of by_cross.below within by_cross.is e (omega (arith, by_cross.level)), by_cross.from)

      on : (r : Option ℕ) → nearest_of (Close k) t m ≡ r → (n : ℕ) × Forward k t n m × (i < n)
      on (Some n) s =
          let by_backward_told = backward_told k t m n within s in
          (n, backward_forward by_backward_told, apart n (by_backward_told.nearest back.0 back.1) by_backward_told.balanced (ℕ_discrete i n))
        where
          apart : (n : ℕ) → back.0 ≤ n → Balanced k t n m → Dec (i ≡ n) → i < n
          apart n p g (yes q) =
              let at : (x : ℕ) → tally x t i ≡ tally x t n = λ x. ap (tally x t) q in
              absurd (omega (arith, (arch_of_forward f).above (suc m) (omega arith) h, balanced_level g, at (open_of k), at (close_of k)))
          apart n p g (no q) = omega (arith, back.2)
      on None s = absurd (backward_none k t m s back.0 back.1)
