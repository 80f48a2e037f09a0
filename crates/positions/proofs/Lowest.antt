-- Laws of the lowest of a list of refusals. Assumes nothing.
use Rattle.lists.proofs.Kit.{◌≡◌, refl, sym, List, [], ◌∷◌, ◌++◌, Bool, true, false, cond, ℕ, ℕ_discrete, eqb, eq-eqb, ne_eqb, eqb-true, eqb-false}
use Rattle.positions.specs.Positions.{lowest}

pub lowest_none : (f : ℕ) (rest : List ℕ) → lowest (f ∷ rest) ≡ 0 → (f ≡ 0) × (lowest rest ≡ 0)
unfolding lowest
lowest_none f rest e = go (eqb f 0) refl e
  where
    go : (b : Bool) → eqb f 0 ≡ b → cond b (lowest rest) f ≡ 0 → (f ≡ 0) × (lowest rest ≡ 0)
    go true p q = (eqb-true _ _ p, q)
    go false p q = absurd (eqb-false _ _ p q)

-- with one more at the end
pub lowest_kept : (l : List ℕ) (d : ℕ) → (lowest l ≡ 0 → ⊥) → lowest (l ++ (d ∷ [])) ≡ lowest l
unfolding lowest
lowest_kept [] d n = absurd (n refl)
lowest_kept (f ∷ rest) d n = go (eqb f 0) (λ m. lowest_kept rest d m) n
  where
    go : (b : Bool) → ((lowest rest ≡ 0 → ⊥) → lowest (rest ++ (d ∷ [])) ≡ lowest rest) → (cond b (lowest rest) f ≡ 0 → ⊥) →
        cond b (lowest (rest ++ (d ∷ []))) f ≡ cond b (lowest rest) f
    go true h n = h n
    go false h n = refl

-- one input for another that is accepted too, after the first
pub lowest_other : (f a b : ℕ) (rest : List ℕ) → lowest (f ∷ a ∷ rest) ≡ 0 → b ≡ 0 → lowest (f ∷ b ∷ rest) ≡ 0
unfolding lowest
lowest_other f a b rest z e =
    let first = lowest_none f (a ∷ rest) z in
    rw (eq-eqb f 0 first.0, eq-eqb b 0 e) (lowest_none a rest first.1).1

pub both : (a b : ℕ) → a ≡ 0 → b ≡ 0 → lowest (a ∷ b ∷ []) ≡ 0
unfolding lowest
both a b p q = rw (eq-eqb a 0 p, eq-eqb b 0 q)

lowest_one : (d : ℕ) → Dec (d ≡ 0) → lowest (d ∷ []) ≡ d
unfolding lowest
lowest_one d (yes e) = rw (eq-eqb d 0 e) (sym e)
lowest_one d (no n) = rw (ne_eqb d 0 n)

pub lowest_last : (l : List ℕ) (d : ℕ) → lowest l ≡ 0 → lowest (l ++ (d ∷ [])) ≡ d
unfolding lowest
lowest_last [] d z = lowest_one d (ℕ_discrete d 0)
lowest_last (f ∷ rest) d z =
    let by_lowest_none = lowest_none f rest z in
    rw (eq-eqb f 0 by_lowest_none.0) (lowest_last rest d by_lowest_none.1)

-- the next check is made where the ones before it refuse nothing
pub lowest_then : (l : List ℕ) (d : ℕ) → cond (eqb (lowest l) 0) d (lowest l) ≡ lowest (l ++ (d ∷ []))
lowest_then l d = go (ℕ_discrete (lowest l) 0)
  where
    go : Dec (lowest l ≡ 0) → cond (eqb (lowest l) 0) d (lowest l) ≡ lowest (l ++ (d ∷ []))
    go (yes z) = rw (eq-eqb (lowest l) 0 z) (sym (lowest_last l d z))
    go (no n) = rw (ne_eqb (lowest l) 0 n) (sym (lowest_kept l d n))
