-- The nearest place that balances a bracket is its partner, and there is none exactly where the bracket is alone: on offsets.
-- Assumes nothing.
use Rattle.lists.proofs.Kit.{◌≡◌, refl, sym, ◌∙◌, ap, List, true, ◌&&◌, ℕ, ◌+◌, ◌≤◌, ◌<◌, dec_lt, arith, length, get_or, eqb, eq-eqb, eqb-true, Option, Some, None}
use Rattle.bracket_kinds.specs.declared.Kind.{Kind}
use Rattle.bracket_kinds.specs.declared.Side.{Side}
use Rattle.bracket_kinds.specs.declared.Side.TheVariants.{Open, Close, Neither}
use Rattle.bracket_kinds.specs.Kinds.{open_of, close_of, side_of}
use Rattle.bracket_laws.specs.Pairs.{Balanced, Forward, Backward, IsPartner, forward, backward, Alone, no_bracket, open_alone, close_alone}
use Rattle.bracket_walks.specs.Matching.{balances, nearest_of, partner_of}
use Rattle.row_search.proofs.Nearest.{never, both}
use Rattle.row_search.proofs.Told.{at_some, First, Last, first_told, first_none, last_told, last_none}
use Rattle.bracket_walks.proofs.Sides.{side_open, side_close, SideIs, side_told}

module _ {k : Kind} {t : List ℕ} {i j : ℕ} where
  pub balances_told : balances (open_of k) (close_of k) t i j ≡ true → i < j → j < length t → Balanced k t i j
  balances_told e l h =
      let by_both = both (eqb (get_or t i 0) (open_of k) && eqb (get_or t j 0) (close_of k)) _ e in
      let both_here = both (eqb (get_or t i 0) (open_of k)) _ by_both.0 in
      record { after = l; inside = h; opens = eqb-true _ _ both_here.0; closes = eqb-true _ _ both_here.1; even = eqb-true _ _ by_both.1 }

  pub balances_of : Balanced k t i j → balances (open_of k) (close_of k) t i j ≡ true
  balances_of b = rw (eq-eqb _ _ b.opens, eq-eqb _ _ b.closes, eq-eqb _ _ b.even)

module _ (k : Kind) (t : List ℕ) (i : ℕ) where
  pub forward_told : (j : ℕ) → nearest_of (Open k) t i ≡ Some j → Forward k t i j
  unfolding nearest_of
  forward_told j e =
      let by_first_told = first_told (balances (open_of k) (close_of k) t i) (i + 1) (length t) j e in
      record {
        balanced = balances_told by_first_told.passes (omega (arith, by_first_told.from)) by_first_told.below;
        nearest = λ m b. on by_first_told m b (dec_lt m j);
      }
    where
      on : First (balances (open_of k) (close_of k) t i) (i + 1) (length t) j → (m : ℕ) → Balanced k t i m → Dec (m < j) → j ≤ m
      on f m b (yes l) = absurd (never (balances_of b) (f.none m (omega (arith, b.after)) l))
      on f m b (no l) = omega arith

  pub forward_none : nearest_of (Open k) t i ≡ None → (j : ℕ) → Balanced k t i j → ⊥
  unfolding nearest_of
  forward_none e j b = never (balances_of b) (first_none (balances (open_of k) (close_of k) t i) (i + 1) (length t) e j (omega (arith, b.after)) b.inside)

  pub backward_told : (j : ℕ) → i < length t → nearest_of (Close k) t i ≡ Some j → Backward k t j i
  unfolding nearest_of
  backward_told j h e =
      let by_last_told = last_told (λ m. balances (open_of k) (close_of k) t m i) i j e in
      record { balanced = balances_told by_last_told.passes by_last_told.below h; nearest = λ m b. on by_last_told m b (dec_lt j m) }
    where
      on : Last (λ m. balances (open_of k) (close_of k) t m i) i j → (m : ℕ) → Balanced k t m i → Dec (j < m) → m ≤ j
      on f m b (yes l) = absurd (never (balances_of b) (f.none m l b.after))
      on f m b (no l) = omega arith

  pub backward_none : nearest_of (Close k) t i ≡ None → (j : ℕ) → Balanced k t j i → ⊥
  unfolding nearest_of
  backward_none e j b = never (balances_of b) (last_none (λ m. balances (open_of k) (close_of k) t m i) i e j b.after)

module _ (t : List ℕ) (i : ℕ) (h : i < length t) where
  -- the answer is the partner
  pub partner_told : (j : ℕ) → partner_of t i ≡ Some j → IsPartner t i j
  unfolding nearest_of
  partner_told j e = on (side_of (get_or t i 0)) e
    where
      on : (s : Side) → nearest_of s t i ≡ Some j → IsPartner t i j
      on (Open k) f = forward k (forward_told k t i j f)
      on (Close k) f = backward k (backward_told k t i j h f)
      on Neither f = absurd (at_some (sym f))

  opened : (k : Kind) → get_or t i 0 ≡ open_of k → partner_of t i ≡ nearest_of (Open k) t i
  opened k e = ap (λ (s : Side). nearest_of s t i) (ap side_of e ∙ side_open k)

  closed : (k : Kind) → get_or t i 0 ≡ close_of k → partner_of t i ≡ nearest_of (Close k) t i
  closed k e = ap (λ (s : Side). nearest_of s t i) (ap side_of e ∙ side_close k)

  -- and the partner is the answer
  pub partner_found : (j : ℕ) → IsPartner t i j → partner_of t i ≡ Some j
  partner_found j (forward k f) = opened k f.balanced.opens ∙ on (nearest_of (Open k) t i) refl
    where
      on : (r : Option ℕ) → nearest_of (Open k) t i ≡ r → r ≡ Some j
      on (Some m) e = let by_forward_told =
          forward_told k t i m e in ap Some (omega (arith, f.nearest m by_forward_told.balanced, by_forward_told.nearest j f.balanced))
      on None e = absurd (forward_none k t i e j f.balanced)
  partner_found j (backward k f) = closed k f.balanced.closes ∙ on (nearest_of (Close k) t i) refl
    where
      on : (r : Option ℕ) → nearest_of (Close k) t i ≡ r → r ≡ Some j
      on (Some m) e = let by_backward_told =
          backward_told k t i m h e in ap Some (omega (arith, f.nearest m by_backward_told.balanced, by_backward_told.nearest j f.balanced))
      on None e = absurd (backward_none k t i e j f.balanced)

  -- none exactly where the bracket is alone
  pub alone_told : partner_of t i ≡ None → Alone t i
  alone_told e = on (side_of (get_or t i 0)) (side_told (get_or t i 0)) e
    where
      on : (s : Side) → SideIs (get_or t i 0) s → nearest_of s t i ≡ None → Alone t i
      on (Open k) s f = open_alone k s (forward_none k t i f)
      on (Close k) s f = close_alone k s (backward_none k t i f)
      on Neither s f = no_bracket s

  pub alone_found : Alone t i → partner_of t i ≡ None
  unfolding nearest_of
  alone_found (no_bracket n) = on (side_of (get_or t i 0)) (side_told (get_or t i 0))
    where
      on : (s : Side) → SideIs (get_or t i 0) s → nearest_of s t i ≡ None
      on (Open k) s = absurd ((n k).0 s)
      on (Close k) s = absurd ((n k).1 s)
      on Neither s = refl
  alone_found (open_alone k e n) = opened k e ∙ on (nearest_of (Open k) t i) refl
    where
      on : (r : Option ℕ) → nearest_of (Open k) t i ≡ r → r ≡ None
      on (Some m) f = absurd (n m (forward_told k t i m f).balanced)
      on None f = refl
  alone_found (close_alone k e n) = closed k e ∙ on (nearest_of (Close k) t i) refl
    where
      on : (r : Option ℕ) → nearest_of (Close k) t i ≡ r → r ≡ None
      on (Some m) f = absurd (n m (backward_told k t i m h f).balanced)
      on None f = refl
