-- Pairs around an offset, by `inner_open`: the answer is the open of the innermost one, and there is none exactly where no pair is around it.
-- Assumes nothing.
use Rattle.lists.proofs.Kit.{◌≡◌, refl, sym, ◌∙◌, ap, List, Bool, true, false, ℕ, ◌+◌, ◌≤◌, ◌<◌, dec_lt, arith, get_or, eqb, eq-eqb, eqb-true, le-leb, leb-true, Option, Some, None}
use Rattle.row_search.proofs.Nearest.{never, both}
use Rattle.row_search.proofs.Told.{Last, last_told, last_none}
use Rattle.bracket_kinds.specs.declared.Kind.{Kind}
use Rattle.bracket_kinds.specs.declared.Side.{Side}
use Rattle.bracket_kinds.specs.declared.Side.TheVariants.{Open}
use Rattle.bracket_kinds.specs.Kinds.{open_of, side_of}
use Rattle.bracket_walks.specs.Matching.{nearest_of, partner_of}
use Rattle.bracket_walks.proofs.Sides.{side_open}
use Rattle.bracket_laws.specs.Pairs.{Forward, forward}
use Rattle.bracket_laws.proofs.Answers.{forward_told, partner_found}
use Rattle.bracket_inner.specs.Inner.{reaches, opens_around, inner_open}
use Rattle.bracket_inner.proofs.Search.{last_is, last_nowhere}

-- the pair at i and j has x on one of its brackets, or between them
pub record Around (k : Kind) (t : List ℕ) (x i j : ℕ) : Type 0 where
  pub pair : Forward k t i j
  pub from : i ≤ x
  pub to : x ≤ j

-- every pair around x starts at i or before it
abbrev pub Latest : Kind → List ℕ → ℕ → ℕ → Type 0
Latest k t x i = (m n : ℕ) → Around k t x m n → m ≤ i

module _ (k : Kind) (t : List ℕ) where
  pub open_partner : (i : ℕ) → get_or t i 0 ≡ open_of k → partner_of t i ≡ nearest_of (Open k) t i
  open_partner i e = ap (λ (s : Side). nearest_of s t i) (ap side_of e ∙ side_open k)

  pub pair_partner : {i j : ℕ} → Forward k t i j → partner_of t i ≡ Some j
  pair_partner {i} {j} f = partner_found t i (omega (arith, f.balanced.after, f.balanced.inside)) j (forward k f)

  module _ (x : ℕ) where
    opens_told : (i : ℕ) → opens_around k t x i ≡ true → (j : ℕ) × Forward k t i j × (x ≤ j)
    unfolding reaches
    opens_told i e = on (partner_of t i) refl b.1
      where
        b : (eqb (get_or t i 0) (open_of k) ≡ true) × (reaches x (partner_of t i) ≡ true)
        b = both (eqb (get_or t i 0) (open_of k)) (reaches x (partner_of t i)) e

        on : (f : Option ℕ) → partner_of t i ≡ f → reaches x f ≡ true → (j : ℕ) × Forward k t i j × (x ≤ j)
        on (Some j) p q = (j, forward_told k t i j (sym (open_partner i (eqb-true _ _ b.0)) ∙ p), leb-true _ _ q)
        on None p q = absurd (never q refl)

    opens_so : {i j : ℕ} → Around k t x i j → opens_around k t x i ≡ true
    unfolding reaches
    opens_so a = rw (eq-eqb _ _ a.pair.balanced.opens, pair_partner a.pair, le-leb _ _ a.to)

    pub inner_told : (i : ℕ) → inner_open k t x ≡ Some i → (j : ℕ) × Around k t x i j × Latest k t x i
    inner_told i e =
        let by_last_told = last_told (opens_around k t x) (x + 1) i e in
        let by_opens_told = opens_told i by_last_told.passes in (
          by_opens_told.0,
          record { pair = by_opens_told.1; from = omega (arith, by_last_told.below); to = by_opens_told.2 },
          λ m n a. latest by_last_told m a (dec_lt i m),
        )
      where
        latest : Last (opens_around k t x) (x + 1) i → (m : ℕ) {n : ℕ} → Around k t x m n → Dec (i < m) → m ≤ i
        latest l m a (yes u) = absurd (never (opens_so a) (l.none m u (omega (arith, a.from))))
        latest l m a (no u) = omega arith

    pub inner_none : inner_open k t x ≡ None → (i j : ℕ) → Around k t x i j → ⊥
    inner_none e i j a = never (opens_so a) (last_none (opens_around k t x) (x + 1) e i (omega (arith, a.from)))

    pub inner_found : {i j : ℕ} → Around k t x i j → Latest k t x i → inner_open k t x ≡ Some i
    inner_found {i} a l = last_is (opens_around k t x) (x + 1) i
        (record { below = omega (arith, a.from); passes = opens_so a; none = λ m u v. no_later m u v (opens_around k t x m) refl })
      where
        no_later : (m : ℕ) → i < m → m < x + 1 → (b : Bool) → opens_around k t x m ≡ b → b ≡ false
        no_later m u v true e =
            let by_opens_told = opens_told m e in
            absurd (omega (arith, l m by_opens_told.0 (record { pair = by_opens_told.1; from = omega arith; to = by_opens_told.2 })))
        no_later m u v false e = refl

    pub inner_nowhere : ((i j : ℕ) → Around k t x i j → ⊥) → inner_open k t x ≡ None
    inner_nowhere n = last_nowhere (opens_around k t x) (x + 1) (λ m u. no_open m u (opens_around k t x m) refl)
      where
        no_open : (m : ℕ) → m < x + 1 → (b : Bool) → opens_around k t x m ≡ b → b ≡ false
        no_open m u true e =
            let by_opens_told = opens_told m e in
            absurd (n m by_opens_told.0 (record { pair = by_opens_told.1; from = omega arith; to = by_opens_told.2 }))
        no_open m u false e = refl
