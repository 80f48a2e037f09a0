-- What the two walks from an offset find. Back from it, with depth 1: the open that is one less deep, behind which every other is closed again; on
-- from it: the close of that one. Where a pair is around the offset, the text comes down to its depth on either side, so that both walks end.
-- Assumes nothing.
use Rattle.lists.proofs.Kit.{◌≡◌, sym, ◌∙◌, ap, List, ℕ, suc, ◌+◌, ◌≤◌, ◌<◌, dec_lt, ℕ_discrete, arith, length, get_or, Some, None}
use Rattle.row_search.proofs.Nearest.{never}
use Rattle.row_search.proofs.Told.{First, Last, first_told, first_none, last_told, last_none}
use Rattle.bracket_kinds.specs.declared.Kind.{Kind}
use Rattle.bracket_kinds.specs.declared.Side.TheVariants.{Open}
use Rattle.bracket_kinds.specs.Kinds.{open_of, close_of}
use Rattle.bracket_walks.specs.Matching.{nearest_of, partner_of, closes_at, close_from, opens_at, open_below}
use Rattle.bracket_walks.proofs.Sides.{differ, hands}
use Rattle.bracket_walks.proofs.Depth.{tally}
use Rattle.bracket_walks.proofs.Deep.{closes_so, forward_deep}
use Rattle.bracket_laws.specs.Pairs.{Balanced, Forward}
use Rattle.bracket_laws.proofs.Pairs.{Above, balanced_level, balanced_of, arch_of_forward}
use Rattle.bracket_laws.proofs.Answers.{forward_told, forward_none}
use Rattle.bracket_laws.proofs.Inner.{inner_open_lem}
use Rattle.bracket_inner.specs.Inner.{inner_open}
use Rattle.bracket_inner.proofs.Enclosing.{Around, Latest, open_partner, pair_partner, inner_found, inner_nowhere}
use Rattle.bracket_inner.proofs.Depths.{free_open, free_close, open_level, close_level}

module _ (k : Kind) (t : List ℕ) (x : ℕ) (h : x ≤ length t) where
  -- on an open of the kind, which is that of the pair: the walk on from it leads to its partner, and where that is none, no pair is around it
  module _ (l : x < length t) (e : get_or t x 0 ≡ open_of k) where
    own_partner : nearest_of (Open k) t x ≡ close_from (open_of k) (close_of k) t (x + 1) 1
    unfolding nearest_of
    own_partner = forward_deep (open_of k) (close_of k) t (hands k) x l e

    pub on_open_found : (j : ℕ) → close_from (open_of k) (close_of k) t (x + 1) 1 ≡ Some j → (partner_of t x ≡ Some j) × (inner_open k t x ≡ Some x)
    on_open_found j s =
        let by_forward_told = forward_told k t x j (own_partner ∙ s) in (
          open_partner k t x e ∙ own_partner ∙ s,
          inner_found k t x (record { pair = by_forward_told; from = omega arith; to = omega (arith, by_forward_told.balanced.after) }) (λ m n a. a.from),
        )

    pub on_open_none : close_from (open_of k) (close_of k) t (x + 1) 1 ≡ None → inner_open k t x ≡ None
    on_open_none s = inner_nowhere k t x (λ i j a. alone i j a (ℕ_discrete i x) (ℕ_discrete x j))
      where
        alone : (i j : ℕ) → Around k t x i j → Dec (i ≡ x) → Dec (x ≡ j) → ⊥
        alone i j a (yes u) v = forward_none k t x (own_partner ∙ s) j (rw u at a.pair.balanced)
        alone i j a (no u) (yes v) = differ k (sym e ∙ ap (λ (m : ℕ). get_or t m 0) v ∙ a.pair.balanced.closes)
        alone i j a (no u) (no v) =
            let by_inner_open = inner_open_lem a.pair x (omega (arith, a.from)) (omega (arith, a.to)) e in
            forward_none k t x (own_partner ∙ s) by_inner_open.0 by_inner_open.1.balanced

  -- anywhere else
  module _ (n : x < length t → get_or t x 0 ≡ open_of k → ⊥) where
    -- a pair around x starts before it, and x is deeper
    starts_before : {i j : ℕ} → Around k t x i j → (i < x) × Above (open_of k) (close_of k) t i x
    starts_before {i} {j} a = on (ℕ_discrete i x)
      where
        on : Dec (i ≡ x) → (i < x) × Above (open_of k) (close_of k) t i x
        on (yes u) = absurd (n (omega (arith, a.to, a.pair.balanced.inside)) (ap (λ (m : ℕ). get_or t m 0) (sym u) ∙ a.pair.balanced.opens))
        on (no u) = let i_below : i < x = omega (arith, a.from) in (i_below, (arch_of_forward a.pair).above x i_below a.to)

    pub no_open : open_below (open_of k) (close_of k) t x 1 ≡ None → inner_open k t x ≡ None
    no_open s = inner_nowhere k t x none
      where
        none : (i j : ℕ) → Around k t x i j → ⊥
        none i j a =
            let by_starts_before = starts_before a in
            let by_free_open = free_open k t x h i a.from by_starts_before.1 in
            never by_free_open.3 (last_none (opens_at (open_of k) (close_of k) t x 1) x s by_free_open.0 by_free_open.2)

    pub no_close : close_from (open_of k) (close_of k) t x 1 ≡ None → inner_open k t x ≡ None
    no_close s = inner_nowhere k t x none
      where
        none : (i j : ℕ) → Around k t x i j → ⊥
        none i j a =
            let by_starts_before = starts_before a in
            let balanced = a.pair.balanced in
            let by_free_close = free_close k t x h (suc j) (omega (arith, a.to)) balanced.inside
            (omega (arith, by_starts_before.1, balanced_level balanced)) in
            never by_free_close.3 (first_none (closes_at (open_of k) (close_of k) t x 1) x (length t) s by_free_close.0 by_free_close.1
            (omega (arith, by_free_close.2, balanced.inside)))

    -- the open that the walk back finds, and the close that the walk on finds: they are partners, and every pair around x starts there or before
    module _ (i j : ℕ) (back : open_below (open_of k) (close_of k) t x 1 ≡ Some i) (on : close_from (open_of k) (close_of k) t x 1 ≡ Some j) where
      behind : Last (opens_at (open_of k) (close_of k) t x 1) x i
      behind = last_told (opens_at (open_of k) (close_of k) t x 1) x i back

      ahead : First (closes_at (open_of k) (close_of k) t x 1) x (length t) j
      ahead = first_told (closes_at (open_of k) (close_of k) t x 1) x (length t) j on

      -- no place behind the open is less deep than x
      no_later : (a : ℕ) → i < a → a ≤ x → Above (open_of k) (close_of k) t a x → ⊥
      no_later a l u up =
          let by_free_open = free_open k t x h a u up in
          never by_free_open.3 (behind.none by_free_open.0 (omega (arith, by_free_open.1)) by_free_open.2)

      partners : Forward k t i j
      partners = record { balanced = pair; nearest = λ m b. nearest m b (dec_lt m j) (dec_lt m x) }
        where
          p : (get_or t i 0 ≡ open_of k) × (tally (close_of k) t x + tally (open_of k) t i + 1 ≡ tally (open_of k) t x + tally (close_of k) t i)
          p = open_level k t x h i (omega (arith, behind.below)) behind.passes

          q : (get_or t j 0 ≡ close_of k) × (tally (open_of k) t (suc j) + tally (close_of k) t x + 1 ≡ tally (close_of k) t (suc j) + tally (open_of k) t x)
          q = close_level k t x h j ahead.from ahead.passes

          pair : Balanced k t i j
          pair = balanced_of (omega (arith, behind.below, ahead.from)) ahead.below p.0 q.0 (omega (arith, p.1, q.1))

          nearest : (m : ℕ) → Balanced k t i m → Dec (m < j) → Dec (m < x) → j ≤ m
          nearest m b (no u) d = omega arith
          nearest m b (yes u) (yes v) = absurd (no_later (suc m) (omega (arith, b.after)) v (omega (arith, balanced_level b, p.1)))
          nearest m b (yes u) (no v) =
              let by_closes_so = closes_so (open_of k) (close_of k) t x 1 m (omega arith) b.closes (omega (arith, balanced_level b, p.1)) in
              absurd (never by_closes_so (ahead.none m (omega arith) u))

      pub pair_found : (partner_of t i ≡ Some j) × (inner_open k t x ≡ Some i)
      pair_found = (pair_partner k t partners, inner_found k t x (record { pair = partners; from = omega (arith, behind.below); to = ahead.from }) latest)
        where
          latest : Latest k t x i
          latest m e a = let by_starts_before = starts_before a in by (dec_lt i m) by_starts_before.0 by_starts_before.1
            where
              by : Dec (i < m) → m < x → Above (open_of k) (close_of k) t m x → m ≤ i
              by (yes u) v up = absurd (no_later m u (omega arith) up)
              by (no u) v up = omega arith
