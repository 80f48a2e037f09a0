-- What the answer of a search says: the place passes, and none before it does; or none passes.
-- Assumes nothing.
use Rattle.lists.proofs.Kit.{◌≡◌, refl, sym, Bool, true, false, cond, ◌⊎◌, inl, inr, ⊎_elim, ℕ, zero, suc, ◌+◌, ◌-◌, ◌≤◌, ◌<◌, eq-or-lt_of_le, le_of_suc-le-suc, Option, Some, None}
use Rattle.lists.proofs.Kit.{arith}
use Rattle.row_search.specs.Nearest.{first_from, first_in, last_below}

-- an answer names one place
pub at_once : {i j : ℕ} → Some i ≡ Some j → i ≡ j
at_once e = cc

pub at_some : {i : ℕ} → Some i ≡ None → ⊥
at_some e = let never : ◌≡◌ {A = ℕ} 0 1 = cc in omega arith

-- what an answer says: j passes, it lies between a and b, and no place between it and where the search began passes
pub record First (p : ℕ → Bool) (a b j : ℕ) : Type 0 where
  pub from : a ≤ j
  pub below : j < b
  pub passes : p j ≡ true
  pub none : (m : ℕ) → a ≤ m → m < j → p m ≡ false

pub record Last (p : ℕ → Bool) (b j : ℕ) : Type 0 where
  pub below : j < b
  pub passes : p j ≡ true
  pub none : (m : ℕ) → j < m → m < b → p m ≡ false

-- one place of a search: it is the answer, or the rest gives it
this_or_rest : {i j : ℕ} {r : Option ℕ} (b : Bool) → cond b (Some i) r ≡ Some j → ((b ≡ true) × (i ≡ j)) ⊎ ((b ≡ false) × (r ≡ Some j))
this_or_rest true e = inl (refl, at_once e)
this_or_rest false e = inr (refl, e)

neither : (i : ℕ) {r : Option ℕ} (b : Bool) → cond b (Some i) r ≡ None → (b ≡ false) × (r ≡ None)
neither i true e = absurd (at_some e)
neither i false e = (refl, e)

module _ (p : ℕ → Bool) where
  first_there : (n i j : ℕ) → first_from p i n ≡ Some j → First p i (i + n) j
  unfolding first_from
  first_there zero i j e = absurd (at_some (sym e))
  first_there (suc n) i j e = on (this_or_rest (p i) e) (first_there n (suc i) j)
    where
      on : ((p i ≡ true) × (i ≡ j)) ⊎ ((p i ≡ false) × (first_from p (suc i) n ≡ Some j)) → (first_from p (suc i) n ≡ Some j → First p (suc i) (suc i + n) j)
          → First p i (i + suc n) j
      on (inl h) ih =
          let second_part = h.1 in
          record { from = omega arith; below = omega arith; passes = rw (← second_part) h.0; none = λ m l g. absurd (omega arith) }
      on (inr h) ih =
          let by_ih = ih h.1 in
          record {
            from = omega (arith, by_ih.from);
            below = omega (arith, by_ih.below);
            passes = by_ih.passes;
            none = λ m l g. ⊎_elim (λ q. rw (← q) h.0) (λ q. by_ih.none m q g) (eq-or-lt_of_le l);
          }

  first_nowhere : (n i : ℕ) → first_from p i n ≡ None → (m : ℕ) → i ≤ m → m < i + n → p m ≡ false
  unfolding first_from
  first_nowhere zero i e m l h = absurd (omega arith)
  first_nowhere (suc n) i e m l h =
      let by_neither = neither i (p i) e in
      ⊎_elim (λ q. rw (← q) by_neither.0) (λ q. first_nowhere n (suc i) by_neither.1 m q (omega arith)) (eq-or-lt_of_le l)

  -- the first from a up to b
  module _ (a b : ℕ) where
    pub first_told : (j : ℕ) → first_in p a b ≡ Some j → First p a b j
    first_told j e =
        let by_first_there = first_there (b - a) a j e in
        record {
          from = by_first_there.from;
          below = omega (arith, by_first_there.from, by_first_there.below);
          passes = by_first_there.passes;
          none = by_first_there.none;
        }

    pub first_none : first_in p a b ≡ None → (m : ℕ) → a ≤ m → m < b → p m ≡ false
    first_none e m l h = first_nowhere (b - a) a e m l (omega arith)

  -- the last below b
  pub last_told : (b j : ℕ) → last_below p b ≡ Some j → Last p b j
  unfolding last_below
  last_told zero j e = absurd (at_some (sym e))
  last_told (suc b) j e = on (this_or_rest (p b) e) (last_told b j)
    where
      on : ((p b ≡ true) × (b ≡ j)) ⊎ ((p b ≡ false) × (last_below p b ≡ Some j)) → (last_below p b ≡ Some j → Last p b j) → Last p (suc b) j
      on (inl h) ih =
          let second_part = h.1 in
          record { below = omega arith; passes = rw (← second_part) h.0; none = λ m l g. absurd (omega arith) }
      on (inr h) ih =
          let by_ih = ih h.1 in
          record {
            below = omega (arith, by_ih.below);
            passes = by_ih.passes;
            none = λ m l g. ⊎_elim (λ q. rw q h.0) (λ q. by_ih.none m l q) (eq-or-lt_of_le (le_of_suc-le-suc g));
          }

  pub last_none : (b : ℕ) → last_below p b ≡ None → (m : ℕ) → m < b → p m ≡ false
  unfolding last_below
  last_none zero e m h = absurd (omega arith)
  last_none (suc b) e m h =
      let by_neither = neither b (p b) e in
      ⊎_elim (λ q. rw q by_neither.0) (λ q. last_none b by_neither.1 m q) (eq-or-lt_of_le (le_of_suc-le-suc h))
