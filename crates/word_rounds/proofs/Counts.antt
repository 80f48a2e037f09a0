-- Counts of rounds: they add where a round that ends the motion ends it again, and a round that changes nothing ends it.
-- Assumes nothing.
use Rattle.lists.proofs.Kit.{◌≡◌, refl, ap, sym, ◌∙◌, List, Bool, false, ℕ, zero, suc, ◌+◌, ◌-◌, ◌<◌, max, arith}
use Rattle.lists.specs.Rounds.{rounds}
use Rattle.lists.proofs.Rounds.{rounds_still, rounds_add}
use Rattle.text.specs.declared.Position.{Position}
use Rattle.word_rounds.specs.Rounds.{Turn, On, Off, round_of, after, counted, word_motion}
use Rattle.word_rounds.specs.declared.Motion.{Motion}

module _ (round : Position → Turn) where
  pub counted_none : (n : ℕ) (p : Position) → n ≡ 0 → counted round n p ≡ p
  unfolding counted
  counted_none n p e = rw e

  -- one round of several
  pub counted_on : (n : ℕ) (p q : Position) → 0 < n → round p ≡ On q → counted round n p ≡ counted round (n - 1) q
  unfolding counted
  counted_on zero p q h e = absurd (omega arith)
  counted_on (suc n) p q h e =
      let one : suc n - 1 ≡ n = omega arith in
      rw (e, one)

  pub counted_off : (n : ℕ) (p q : Position) → 0 < n → round p ≡ Off q → counted round n p ≡ q
  unfolding counted
  counted_off zero p q h e = absurd (omega arith)
  counted_off (suc n) p q h e = rw e

  -- a round that changes nothing ends them, whatever the count
  pub counted_still : (n : ℕ) (p : Position) → round p ≡ On p → counted round n p ≡ p
  unfolding counted
  counted_still zero p e = refl
  counted_still (suc n) p e = rw e (counted_still n p e)

  -- where the round after the last is the last again, they are as many rounds from place to place
  module _ (again : (p q : Position) → round p ≡ Off q → round q ≡ Off q) where
    ends : Turn → Position
    ends (On q) = q
    ends (Off q) = q

    counted_rounds : (n : ℕ) (p : Position) → counted round n p ≡ rounds (λ q. ends (round q)) n p
    unfolding counted rounds ends
    counted_rounds zero p = refl
    counted_rounds (suc n) p = go (round p) refl (λ q. counted_rounds n q)
      where
        go : (r : Turn) → round p ≡ r → ((q : Position) → counted round n q ≡ rounds (λ q. ends (round q)) n q) →
            after r (counted round n) ≡ rounds (λ q. ends (round q)) n (ends r)
        go (On q) e ih = ih q
        go (Off q) e ih = sym (rounds_still (λ q. ends (round q)) n q (ap ends (again p q e)))

    -- m rounds and then n are m + n rounds
    pub counted_add : (m n : ℕ) (p : Position) → counted round (m + n) p ≡ counted round n (counted round m p)
    counted_add m n p =
        let step : Position → Position = λ q. ends (round q) in
        counted_rounds (m + n) p ∙ rounds_add step m n p ∙ ap (rounds step n) (sym (counted_rounds m p)) ∙ sym (counted_rounds n (counted round m p))

-- the first round, and the rest
module _ (t folds : List ℕ) (kind : ℕ → ℕ) (big : Bool) (m : Motion) (stop : Bool) (count : ℕ) (p : Position) {q : Position} where
  pub motion_on : (k : ℕ) → round_of t folds kind big m stop p ≡ On q → k ≡ max count 1 - 1 → counted (round_of t folds kind big m false) k q ≡
      word_motion t folds kind big m stop count p
  unfolding word_motion
  motion_on k e w = rw (e, w)

  pub motion_off : round_of t folds kind big m stop p ≡ Off q → q ≡ word_motion t folds kind big m stop count p
  unfolding word_motion
  motion_off e = rw e
