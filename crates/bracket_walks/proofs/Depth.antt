-- The depth of a text at a place: the opens before it less the closes. Two depths are compared as sums of counts, so that no number is
-- negative. A place balances a bracket where the depth is the same before the one and after the other. Assumes nothing.
use Rattle.lists.proofs.Kit.{◌≡◌, refl, sym, ◌∙◌, ap, List, [], ◌∷◌, ◌++◌, Bool, true, false, cond, ◌&&◌, ℕ, suc, ◌+◌, ◌≤◌, ◌<◌, arith, length, get_or, take}
use Rattle.lists.proofs.Kit.{take-append-drop, take-suc, take-take, eqb, eq-eqb, ne_eqb, eqb-true}
use Rattle.bracket_walks.specs.Pairs.{count, stretch, up_to}
use Rattle.bracket_walks.specs.Matching.{balances}
use Rattle.row_search.proofs.Nearest.{both}

count_append : (x : ℕ) (s r : List ℕ) → count x (s ++ r) ≡ count x s + count x r
unfolding count
count_append x [] r = omega arith
count_append x (y ∷ s) r = omega (arith, count_append x s r)

-- how often x stands among the first k
unfoldable pub tally : ℕ → List ℕ → ℕ → ℕ
tally x t k = count x (take k t)

module _ (x : ℕ) (t : List ℕ) where
  tally_suc : (k : ℕ) → k < length t → tally x t (suc k) ≡ tally x t k + cond (eqb (get_or t k 0) x) 1 0
  unfolding tally count
  tally_suc k h = rw (take-suc t k 0 h, count_append) (omega arith)

  pub tally_hit : (k : ℕ) → k < length t → get_or t k 0 ≡ x → tally x t (suc k) ≡ suc (tally x t k)
  tally_hit k h e = rw (tally_suc k h, eq-eqb _ _ e) (omega arith)

  pub tally_miss : (k : ℕ) → k < length t → (get_or t k 0 ≡ x → ⊥) → tally x t (suc k) ≡ tally x t k
  tally_miss k h e = rw (tally_suc k h, ne_eqb _ _ e) (omega arith)

  pub tally_up_to : (i j : ℕ) → i ≤ j → tally x t j ≡ tally x t i + count x (up_to t i j)
  unfolding tally up_to
  tally_up_to i j h = ap (count x) (sym (take-append-drop i (take j t))) ∙ rw (count_append, take-take i j t h)

  pub tally_stretch : (i j : ℕ) → i ≤ suc j → tally x t (suc j) ≡ tally x t i + count x (stretch t i j)
  unfolding up_to stretch
  tally_stretch i j h = tally_up_to i (suc j) h

-- what a code point does to the counts of two different ones
module _ (x y : ℕ) (t : List ℕ) (m : ℕ) (h : m < length t) where
  pub hit : (x ≡ y → ⊥) → get_or t m 0 ≡ x → (tally x t (suc m) ≡ suc (tally x t m)) × (tally y t (suc m) ≡ tally y t m)
  hit n e = (tally_hit x t m h e, tally_miss y t m h (λ f. n (sym e ∙ f)))

  pub miss : (get_or t m 0 ≡ x → ⊥) → (get_or t m 0 ≡ y → ⊥) → (tally x t (suc m) ≡ tally x t m) × (tally y t (suc m) ≡ tally y t m)
  miss e f = (tally_miss x t m h e, tally_miss y t m h f)

-- two depths: that at a is that at b
module _ (o c : ℕ) (t : List ℕ) where
  abbrev pub Level : ℕ → ℕ → Type 0
  Level a b = tally o t a + tally c t b ≡ tally o t b + tally c t a

  -- as many opens as closes from i to j: the depth at i is that behind j
  module _ (i j : ℕ) (h : i ≤ suc j) where
    pub level_of : count o (stretch t i j) ≡ count c (stretch t i j) → Level i (suc j)
    level_of e = omega (arith, tally_stretch o t i j h, tally_stretch c t i j h)

    pub even_of : Level i (suc j) → count o (stretch t i j) ≡ count c (stretch t i j)
    even_of e = omega (arith, tally_stretch o t i j h, tally_stretch c t i j h)

    pub balances_level : balances o c t i j ≡ true → Level i (suc j)
    balances_level e = level_of (eqb-true _ _ (both (eqb (get_or t i 0) o && eqb (get_or t j 0) c) _ e).1)

    pub balances_not : (Level i (suc j) → ⊥) → balances o c t i j ≡ false
    balances_not n = on (balances o c t i j) refl
      where
        on : (b : Bool) → balances o c t i j ≡ b → b ≡ false
        on true e = absurd (n (balances_level e))
        on false e = refl

    pub balances_so : get_or t i 0 ≡ o → get_or t j 0 ≡ c → Level i (suc j) → balances o c t i j ≡ true
    balances_so p q e = rw (eq-eqb _ _ p, eq-eqb _ _ q, eq-eqb _ _ (even_of e))
