-- Stretches of rows at which there is no closed fold: how one is found. Assumes nothing.
use Rattle.lists.proofs.Kit.{◌≡◌, refl, ◌∙◌, List, ◌++◌, Bool, true, false, and-false, ℕ, ◌≤◌, ◌<◌, arith, length, get_or, eqb, ltb, ne_eqb, le-ltb, lt-leb}
use Rattle.lists.proofs.Kit.{ltb-true}
use Rattle.folds.specs.Folds.{any_fold, fold_hides, hidden}
use Rattle.folds.proofs.Hiding.{any_fold_next, any_fold_few}
use Rattle.fold_stretches.specs.declared.Stretch.{Stretch}
use Rattle.fold_stretches.specs.Stretches.{Apart, NoFold}

-- no row up to a fold's first is hidden by it, and none after its last
hides_low : (x s e closed : ℕ) → x ≤ s → fold_hides x s e closed ≡ false
hides_low x s e closed h = rw (le-ltb s x h) (and-false (eqb closed 1))

hides_high : (x s e closed : ℕ) → e < x → fold_hides x s e closed ≡ false
hides_high x s e closed h = rw (lt-leb x e h, and-false (ltb s x)) (and-false (eqb closed 1))

module _ {w : Stretch} {s e closed : ℕ} where
  pub apart_open : (closed ≡ 1 → ⊥) → Apart w s e closed w
  apart_open n = record { low = omega arith; high = omega arith; shown = λ k p l. rw (ne_eqb closed 1 n) }

  -- a fold of one row hides none
  pub apart_one : e ≤ s → Apart w s e closed w
  apart_one h = record { low = omega arith; high = omega arith; shown = λ k p l. one k }
    where
      one : (k : ℕ) → fold_hides k s e closed ≡ false
      one k = go (ltb s k) refl
        where
          go : (b : Bool) → ltb s k ≡ b → fold_hides k s e closed ≡ false
          go true q = hides_high k s e closed (omega (arith, ltb-true s k q))
          go false q = rw q (and-false (eqb closed 1))

  -- it lies below the stretch, or above it
  pub apart_low : {r : Stretch} → w.lo ≤ r.lo → r.hi ≤ w.hi → e < r.lo → Apart w s e closed r
  apart_low l h k = record { low = l; high = h; shown = λ x p q. hides_high x s e closed (omega arith) }

  pub apart_high : {r : Stretch} → w.lo ≤ r.lo → r.hi ≤ w.hi → r.hi ≤ s → Apart w s e closed r
  apart_high l h k = record { low = l; high = h; shown = λ x p q. hides_low x s e closed (omega arith) }

-- the folds before those that are left hide no row of the stretch
pub record NoFoldTo (folds : List ℕ) (w : Stretch) (size : ℕ) (left : List ℕ) : Type 0 where
  pub three : size ≡ 3
  pub shown : (row : ℕ) → w.lo ≤ row → row ≤ w.hi → hidden folds row ≡ any_fold (fold_hides row) left

module _ {folds : List ℕ} {w : Stretch} {size : ℕ} {left : List ℕ} (so_far : NoFoldTo folds w size left) where
  pub no_fold_step : (x rest : List ℕ) {r : Stretch} {size' : ℕ} → size' ≡ size → left ≡ x ++ rest → length x ≡ size →
      Apart w (get_or x 0 0) (get_or x 1 0) (get_or x 2 0) r → NoFoldTo folds r size' rest
  no_fold_step x rest same next full a =
      record {
        three = same ∙ so_far.three;
        shown = λ row p q. so_far.shown row (omega (arith, a.low)) (omega (arith, a.high))
            ∙ any_fold_next left x rest next (full ∙ so_far.three) (fold_hides row) ∙ rw (a.shown row p q);
      }

  pub no_fold_end : length left < size → NoFold folds w
  no_fold_end h =
      record { shown = λ row p q. so_far.shown row p q ∙ any_fold_few (fold_hides row) left (omega (arith, so_far.three)) }
