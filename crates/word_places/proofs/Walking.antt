-- Walks over places: where a loop of the code stands in `walk`, with a counter that is never used up. Assumes nothing.
use Rattle.lists.proofs.Kit.{◌≡◌, refl, ◌∙◌, List, [], ◌∷◌, Bool, true, false, cond, ◌&&◌, not, ℕ, zero, suc, ◌+◌, ◌-◌, ◌≤◌, ◌<◌, arith, length, get_or, ltb, Option, Some, None}
use Rattle.lists.proofs.Kit.{ltb-true, le-ltb}
use Rattle.word_ends.specs.declared.Halt.TheVariants.{Onto, Stuck}
use Rattle.word_places.specs.Places.{ahead, is_end, text_end, forward, backward}
use Rattle.word_places.specs.Walks.{walk}

-- the walk that began with n turns at `from` stands at i, with more turns left than the m places ahead
pub record Walking (test : ℕ → Bool) (step : ℕ → Option ℕ) (n from m i : ℕ) : Type 0 where
  pub left : ℕ
  pub enough : m < left
  pub same : walk test step n from ≡ walk test step left i

module _ (test : ℕ → Bool) (step : ℕ → Option ℕ) where
  pub walking_start : (n i m : ℕ) → m < n → Walking test step n i m i
  walking_start n i m h = record { left = n; enough = h; same = refl }

  -- one turn
  pub turn_on : (left i j : ℕ) → 0 < left → test i ≡ true → step i ≡ Some j → walk test step left i ≡ walk test step (left - 1) j
  unfolding walk
  turn_on zero i j h e s = absurd (omega arith)
  turn_on (suc n) i j h e s = let one : suc n - 1 ≡ n = omega arith in rw (e, s, one)

  pub turn_off : (left i : ℕ) → 0 < left → test i ≡ false → walk test step left i ≡ Onto i
  unfolding walk
  turn_off zero i h e = absurd (omega arith)
  turn_off (suc n) i h e = rw e

  pub turn_stuck : (left i : ℕ) → 0 < left → test i ≡ true → step i ≡ None → walk test step left i ≡ Stuck i
  unfolding walk
  turn_stuck zero i h e s = absurd (omega arith)
  turn_stuck (suc n) i h e s = rw (e, s)

module _ {test : ℕ → Bool} {step : ℕ → Option ℕ} {n from m i : ℕ} (w : Walking test step n from m i) where
  pub walking_on : (k j : ℕ) → test i ≡ true → step i ≡ Some j → k < m → Walking test step n from k j
  walking_on k j e s h =
      record { left = w.left - 1; enough = omega (arith, w.enough); same = w.same ∙ turn_on test step w.left i j (omega (arith, w.enough)) e s }

  pub walking_off : test i ≡ false → walk test step n from ≡ Onto i
  walking_off e = w.same ∙ turn_off test step w.left i (omega (arith, w.enough)) e

  pub walking_stuck : test i ≡ true → step i ≡ None → walk test step n from ≡ Stuck i
  walking_stuck e s = w.same ∙ turn_stuck test step w.left i (omega (arith, w.enough)) e s

-- a step on goes on, and stays before the text's end
pub forward_on : (c : List ℕ) (i j : ℕ) → forward c i ≡ Some j → (i < j) × (j < text_end c)
unfolding forward
forward_on c i j e = go (ltb (ahead c i) (text_end c)) refl e
  where
    far : i < ahead c i
    far = by (is_end c i) (is_end c (i + 1))
      where
        by : (a b : Bool) → i < cond (not a && b) (i + 2) (i + 1)
        by true b = omega arith
        by false true = omega arith
        by false false = omega arith

    go : (b : Bool) → ltb (ahead c i) (text_end c) ≡ b → cond b (Some (ahead c i)) None ≡ Some j → (i < j) × (j < text_end c)
    go true q s = let ahead_is : ahead c i ≡ j = cc in (omega (arith, far), omega (arith, ltb-true (ahead c i) (text_end c) q))
    go false q s = let never : ◌≡◌ {A = ℕ} 0 1 = cc in absurd (omega arith)

-- the step, by what it goes over
module _ (c : List ℕ) (i : ℕ) where
  pub forward_none : text_end c ≤ i → forward c i ≡ None
  unfolding forward
  forward_none h = go (is_end c i) (is_end c (i + 1))
    where
      go : (a b : Bool) → cond (ltb (cond (not a && b) (i + 2) (i + 1)) (text_end c)) (Some (cond (not a && b) (i + 2) (i + 1))) None ≡ None
      go true b = rw (le-ltb (i + 1) (text_end c) (omega arith))
      go false true = rw (le-ltb (i + 2) (text_end c) (omega arith))
      go false false = rw (le-ltb (i + 1) (text_end c) (omega arith))

  pub forward_over : (not (is_end c i) && is_end c (i + 1)) ≡ true → forward c i ≡ cond (ltb (i + 2) (text_end c)) (Some (i + 2)) None
  unfolding forward
  forward_over e = rw e

  pub forward_next : (not (is_end c i) && is_end c (i + 1)) ≡ false → forward c i ≡ cond (ltb (i + 1) (text_end c)) (Some (i + 1)) None
  unfolding forward
  forward_next e = rw e

-- a step back
pub backward_none : (i : ℕ) → i ≡ 0 → backward i ≡ None
backward_none i e = rw e

pub backward_on : (i : ℕ) → (i ≡ 0 → ⊥) → backward i ≡ Some (i - 1)
backward_on zero n = absurd (n refl)
backward_on (suc i) n = let one : suc i - 1 ≡ i = omega arith in rw one

-- within a list it does not matter what is read behind it
pub read_any : (l : List ℕ) (i d e : ℕ) → i < length l → get_or l i d ≡ get_or l i e
read_any [] i d e h = absurd (omega arith)
read_any (x ∷ l) zero d e h = refl
read_any (x ∷ l) (suc i) d e h = read_any l i d e (omega arith)
