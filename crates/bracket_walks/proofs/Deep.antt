-- A walk from any place and depth: when a place closes what is open, by the counts before it; and that depth 1 behind a bracket is the way to
-- its partner. Assumes nothing.
use Rattle.lists.proofs.Kit.{◌≡◌, refl, sym, ap, List, Bool, true, false, and-true, ℕ, suc, ◌+◌, ◌≤◌, ◌<◌, add-one, arith, length, get_or, eqb, eq-eqb, eqb-true}
use Rattle.row_search.proofs.Nearest.{both, first_same, last_same}
use Rattle.bracket_walks.specs.Pairs.{count, stretch, up_to}
use Rattle.bracket_walks.specs.Matching.{balances, forward_of, backward_of, closes_at, close_from, opens_at, open_below}
use Rattle.bracket_walks.specs.Walk.{Hands}
use Rattle.bracket_walks.proofs.Depth.{tally, tally_stretch, tally_up_to, hit}

module _ (o c : ℕ) (t : List ℕ) where
  -- forward from i, with d open: behind j none is
  module _ (i d j : ℕ) (h : i ≤ suc j) where
    abbrev Closed : Type 0
    Closed = tally o t (suc j) + tally c t i + d ≡ tally c t (suc j) + tally o t i

    pub closes_not : (Closed → ⊥) → closes_at o c t i d j ≡ false
    closes_not n = on (closes_at o c t i d j) refl
      where
        on : (b : Bool) → closes_at o c t i d j ≡ b → b ≡ false
        on true e =
            let sum_is : count o (stretch t i j) + d ≡ count c (stretch t i j) = eqb-true _ _ (both (eqb (get_or t j 0) c) _ e).1 in
            absurd (n (omega (arith, sum_is, tally_stretch o t i j h, tally_stretch c t i j h)))
        on false e = refl

    pub closes_so : get_or t j 0 ≡ c → Closed → closes_at o c t i d j ≡ true
    closes_so q e =
        let sum_is : count o (stretch t i j) + d ≡ count c (stretch t i j) = omega (arith, tally_stretch o t i j h, tally_stretch c t i j h) in
        rw (eq-eqb _ _ q, eq-eqb _ _ sum_is)

  -- back from j, with d closed: at i none is
  module _ (j d i : ℕ) (h : i ≤ j) where
    abbrev Opened : Type 0
    Opened = tally c t j + tally o t i + d ≡ tally o t j + tally c t i

    pub opens_not : (Opened → ⊥) → opens_at o c t j d i ≡ false
    opens_not n = on (opens_at o c t j d i) refl
      where
        on : (b : Bool) → opens_at o c t j d i ≡ b → b ≡ false
        on true e =
            let count_is : count o (up_to t i j) ≡ count c (up_to t i j) + d = eqb-true _ _ (both (eqb (get_or t i 0) o) _ e).1 in
            absurd (n (omega (arith, count_is, tally_up_to o t i j h, tally_up_to c t i j h)))
        on false e = refl

    pub opens_so : get_or t i 0 ≡ o → Opened → opens_at o c t j d i ≡ true
    opens_so q e =
        let count_is : count o (up_to t i j) ≡ count c (up_to t i j) + d = omega (arith, tally_up_to o t i j h, tally_up_to c t i j h) in
        rw (eq-eqb _ _ q, eq-eqb _ _ count_is)

  module _ (u : Hands o c) where
    -- behind an open its partner is where that one alone is closed
    pub forward_deep : (i : ℕ) → i < length t → get_or t i 0 ≡ o → forward_of o c t i ≡ close_from o c t (i + 1) 1
    forward_deep i h e = first_same (balances o c t i) (closes_at o c t (i + 1) 1) (i + 1) (length t) agree
      where
        agree : (m : ℕ) → i + 1 ≤ m → m < length t → balances o c t i m ≡ closes_at o c t (i + 1) 1 m
        agree m l b =
            let by_hit = hit o c t i h u.differ e in
            let tally_is : (x : ℕ) → tally x t (i + 1) ≡ tally x t (suc i) = λ x. ap (tally x t) (add-one i) in
            let opens : count o (stretch t i m) ≡ count o (stretch t (i + 1) m) + 1 =
            omega (arith, by_hit.0, tally_is o, tally_stretch o t i m (omega arith), tally_stretch o t (i + 1) m (omega arith)) in
            let closes : count c (stretch t i m) ≡ count c (stretch t (i + 1) m) =
            omega (arith, by_hit.1, tally_is c, tally_stretch c t i m (omega arith), tally_stretch c t (i + 1) m (omega arith)) in
            rw (eq-eqb (get_or t i 0) o e, opens, closes)

    -- before a close its partner is where that one alone is opened
    pub backward_deep : (j : ℕ) → j < length t → get_or t j 0 ≡ c → backward_of o c t j ≡ open_below o c t j 1
    backward_deep j h e = last_same (λ i. balances o c t i j) (opens_at o c t j 1) j agree
      where
        agree : (m : ℕ) → m < j → balances o c t m j ≡ opens_at o c t j 1 m
        agree m l =
            let by_hit = hit c o t j h (λ f. u.differ (sym f)) e in
            let opens : count o (stretch t m j) ≡ count o (up_to t m j) =
            omega (arith, by_hit.1, tally_stretch o t m j (omega arith), tally_up_to o t m j (omega arith)) in
            let closes : count c (stretch t m j) ≡ count c (up_to t m j) + 1 =
            omega (arith, by_hit.0, tally_stretch c t m j (omega arith), tally_up_to c t m j (omega arith)) in
            rw (eq-eqb (get_or t j 0) c e, and-true, opens, closes)
