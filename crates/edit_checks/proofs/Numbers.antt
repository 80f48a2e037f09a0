-- Laws of the numbers that refuse: of the lower of two, and of the lowest of a list in two parts. Assumes nothing.
use Rattle.lists.proofs.Kit.{◌≡◌, refl, sym, ap, ◌∙◌, List, [], ◌∷◌, ◌++◌, Bool, true, false, cond, ℕ, ◌≤◌, min, ℕ_discrete, arith, length, eqb, ltb, eq-eqb}
use Rattle.lists.proofs.Kit.{ne_eqb}
use Rattle.lists.specs.Lists.{any}
use Rattle.chars.specs.Scalar.{not_scalar}
use Rattle.text_check.specs.Accept.{is_break, text_refusal}
use Rattle.text.specs.declared.Position.{Position}
use Rattle.positions.specs.Positions.{is_inside, lowest, position_refusal}
use Rattle.positions.proofs.Lowest.{lowest_none}
use Rattle.edit_checks.specs.Refusals.{lower}

module _ (f g : ℕ) where
  pub lower_second : f ≡ 0 → lower f g ≡ g
  unfolding lower
  lower_second e = rw (eq-eqb f 0 e)

  pub lower_first : (f ≡ 0 → ⊥) → g ≡ 0 → lower f g ≡ f
  unfolding lower
  lower_first n e = rw (ne_eqb f 0 n, eq-eqb g 0 e)

  pub lower_both : (f ≡ 0 → ⊥) → (g ≡ 0 → ⊥) → lower f g ≡ min f g
  unfolding lower
  lower_both n m = rw (ne_eqb f 0 n, ne_eqb g 0 m)

  pub lower_none : lower f g ≡ 0 → (f ≡ 0) × (g ≡ 0)
  lower_none z = go (ℕ_discrete f 0) (ℕ_discrete g 0)
    where
      go : Dec (f ≡ 0) → Dec (g ≡ 0) → (f ≡ 0) × (g ≡ 0)
      go (yes e) (yes d) = (e, d)
      go (yes e) (no m) = absurd (m (sym (lower_second e) ∙ z))
      go (no n) (yes d) = absurd (n (sym (lower_first n d) ∙ z))
      go (no n) (no m) = absurd (omega (arith, lower_both n m, z, n, m))

pub lower_void : (f g : ℕ) → g ≡ 0 → lower f g ≡ f
lower_void f g e = go (ℕ_discrete f 0)
  where
    go : Dec (f ≡ 0) → lower f g ≡ f
    go (yes z) = lower_second f g z ∙ e ∙ sym z
    go (no n) = lower_first f g n e

lowest_void : lowest [] ≡ 0
unfolding lowest
lowest_void = refl

pub lower_one : (g : ℕ) → lower 1 g ≡ 1
lower_one g = go (ℕ_discrete g 0)
  where
    go : Dec (g ≡ 0) → lower 1 g ≡ 1
    go (yes e) = lower_first 1 g (λ z. omega (arith, z)) e
    go (no n) = lower_both 1 g (λ z. omega (arith, z)) n ∙ omega (arith, n)

-- a list in two parts
pub lowest_front : (l m : List ℕ) → (lowest l ≡ 0 → ⊥) → lowest (l ++ m) ≡ lowest l
unfolding lowest
lowest_front [] m n = absurd (n refl)
lowest_front (f ∷ l) m n = go (eqb f 0) (λ k. lowest_front l m k) n
  where
    go : (b : Bool) → ((lowest l ≡ 0 → ⊥) → lowest (l ++ m) ≡ lowest l) → (cond b (lowest l) f ≡ 0 → ⊥) → cond b (lowest (l ++ m)) f ≡ cond b (lowest l) f
    go true h n = h n
    go false h n = refl

pub lowest_back : (l m : List ℕ) → lowest l ≡ 0 → lowest (l ++ m) ≡ lowest m
unfolding lowest
lowest_back [] m z = refl
lowest_back (f ∷ l) m z =
    let by_lowest_none = lowest_none f l z in
    rw (eq-eqb f 0 by_lowest_none.0) (lowest_back l m by_lowest_none.1)

pub lowest_head : (f : ℕ) (l : List ℕ) → (f ≡ 0 → ⊥) → lowest (f ∷ l) ≡ f
unfolding lowest
lowest_head f l n = rw (ne_eqb f 0 n)

pub lowest_tail : (f : ℕ) (l : List ℕ) → f ≡ 0 → lowest (f ∷ l) ≡ lowest l
unfolding lowest
lowest_tail f l e = rw (eq-eqb f 0 e)

-- a text is refused with 3 at most, a position with 4
pub text_most : (t : List ℕ) → text_refusal t ≤ 3
unfolding text_refusal
text_most t = go (ltb 1048576 (length t)) (any not_scalar t) (any is_break t)
  where
    go : (a b c : Bool) → cond a 1 (cond b 2 (cond c 3 0)) ≤ 3
    go true b c = omega arith
    go false true c = omega arith
    go false false true = omega arith
    go false false false = omega arith

position_four : (t : List ℕ) (k : Position) → (position_refusal t k ≡ 0 → ⊥) → position_refusal t k ≡ 4
unfolding position_refusal
position_four t k n = go (is_inside t k) n
  where
    go : (b : Bool) → (◌≡◌ {A = ℕ} (cond b 0 4) 0 → ⊥) → ◌≡◌ {A = ℕ} (cond b 0 4) 4
    go true m = absurd (m refl)
    go false m = refl

-- text and caret, and then the code points put in: the lowest of text and code points, and then the caret
pub texts_caret : (t c : List ℕ) (k : Position) →
    lower (lowest (text_refusal t ∷ position_refusal t k ∷ [])) (text_refusal c) ≡ lowest (lower (text_refusal t) (text_refusal c) ∷ position_refusal t k ∷ [])
texts_caret t c k = go (ℕ_discrete (text_refusal t) 0) (ℕ_discrete (text_refusal c) 0) (ℕ_discrete (position_refusal t k) 0)
  where
    go : Dec (text_refusal t ≡ 0) → Dec (text_refusal c ≡ 0) → Dec (position_refusal t k ≡ 0) →
        lower (lowest (text_refusal t ∷ position_refusal t k ∷ [])) (text_refusal c) ≡
        lowest (lower (text_refusal t) (text_refusal c) ∷ position_refusal t k ∷ [])
    go (no n) d e = ap (λ (x : ℕ). lower x (text_refusal c)) (lowest_head (text_refusal t) (position_refusal t k ∷ []) n)
        ∙ sym (lowest_head (lower (text_refusal t) (text_refusal c)) (position_refusal t k ∷ []) (λ z. n (lower_none _ _ z).0))
    go (yes z) (yes y) e = ap (λ (x : ℕ). lower x (text_refusal c)) (lowest_tail (text_refusal t) (position_refusal t k ∷ []) z)
        ∙ lower_void (lowest (position_refusal t k ∷ [])) (text_refusal c) y
        ∙ sym (lowest_tail (lower (text_refusal t) (text_refusal c)) (position_refusal t k ∷ []) (lower_second _ _ z ∙ y))
    go (yes z) (no m) (yes w) =
        ap (λ (x : ℕ). lower x (text_refusal c)) (lowest_tail (text_refusal t) (position_refusal t k ∷ []) z ∙ lowest_tail (position_refusal t k) [] w)
        ∙ lower_second _ _ lowest_void ∙ sym (lower_second _ _ z)
        ∙ sym (lowest_head (lower (text_refusal t) (text_refusal c)) (position_refusal t k ∷ []) (λ v. m (lower_none _ _ v).1))
    go (yes z) (no m) (no w) = ap (λ (x : ℕ). lower x (text_refusal c))
        (lowest_tail (text_refusal t) (position_refusal t k ∷ []) z ∙ lowest_head (position_refusal t k) [] w ∙ position_four t k w)
        ∙ lower_both 4 _ (λ v. omega (arith, v)) m ∙ omega (arith, text_most c) ∙ sym (lower_second _ _ z)
        ∙ sym (lowest_head (lower (text_refusal t) (text_refusal c)) (position_refusal t k ∷ []) (λ v. m (lower_none _ _ v).1))
