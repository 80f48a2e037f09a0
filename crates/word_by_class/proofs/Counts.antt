-- Counts of rounds by the classes. A round that changes nothing ends them. Assumes nothing.
use Rattle.lists.proofs.Kit.{◌≡◌, refl, List, Bool, false, ℕ, zero, suc, ◌-◌, ◌<◌, max, arith}
use Rattle.word_rounds.specs.declared.Motion.{Motion}
use Rattle.word_ends.specs.declared.Turn.{Turn}
use Rattle.word_ends.specs.declared.Turn.TheVariants.{On, Off}
use Rattle.word_by_class.specs.Rounds.{round_of, counted, motion}

module _ (round : ℕ → Turn ℕ) where
  pub counted_none : (n i : ℕ) → n ≡ 0 → counted round n i ≡ i
  unfolding counted
  counted_none n i e = rw e

  pub counted_all : (n i : ℕ) → counted round (n - 0) i ≡ counted round n i
  counted_all n i = let all : n - 0 ≡ n = omega arith in rw all

  pub counted_on : (n i j : ℕ) → 0 < n → round i ≡ On j → counted round n i ≡ counted round (n - 1) j
  unfolding counted
  counted_on zero i j h e = absurd (omega arith)
  counted_on (suc n) i j h e = let one : suc n - 1 ≡ n = omega arith in rw (e, one)

  pub counted_off : (n i j : ℕ) → 0 < n → round i ≡ Off j → counted round n i ≡ j
  unfolding counted
  counted_off zero i j h e = absurd (omega arith)
  counted_off (suc n) i j h e = rw e

  pub counted_still : (n i : ℕ) → round i ≡ On i → counted round n i ≡ i
  unfolding counted
  counted_still zero i e = refl
  counted_still (suc n) i e = rw e (counted_still n i e)

-- the first round, and the rest
module _ (c folds : List ℕ) (big : Bool) (m : Motion) (stop : Bool) (count i j : ℕ) where
  pub motion_on : (n : ℕ) → round_of c folds big m stop i ≡ On j → n ≡ max count 1 - 1 →
      counted (round_of c folds big m false) n j ≡ motion c folds big m stop count i
  unfolding motion
  motion_on n e w = rw (e, w)

  pub motion_off : round_of c folds big m stop i ≡ Off j → j ≡ motion c folds big m stop count i
  unfolding motion
  motion_off e = rw e
