-- The last white space among the first characters of a row, over any test of white space. Assumes nothing.
use Rattle.lists.proofs.Kit.{◌≡◌, refl, ap, ◌∙◌, List, [], ◌∷◌, Bool, true, false, ℕ, zero, suc, ◌-◌, ◌≤◌, ◌<◌, le_of_suc-le-suc, sub-one, ℕ_discrete, arith}
use Rattle.lists.proofs.Kit.{length, get_or, ne_eqb}
use Rattle.row_segment.specs.Segments.{after_white}

module _ (white : ℕ → Bool) where
  pub white_none : (row : List ℕ) → after_white white row 0 ≡ 0
  unfolding after_white
  white_none [] = refl
  white_none (x ∷ row) = refl

  -- character k is white space
  white_suc : (row : List ℕ) (k : ℕ) → k < length row → white (get_or row k 0) ≡ true → after_white white row (suc k) ≡ suc k
  unfolding after_white
  white_suc [] k h e = absurd (omega arith)
  white_suc (x ∷ row) zero h e = rw (white_none row, e)
  white_suc (x ∷ row) (suc k) h e = rw (white_suc row k (le_of_suc-le-suc h) e, ne_eqb (suc k) 0 (λ z. omega arith))

  -- it is not
  other_suc : (row : List ℕ) (k : ℕ) → k < length row → white (get_or row k 0) ≡ false → after_white white row (suc k) ≡ after_white white row k
  unfolding after_white
  other_suc [] k h e = absurd (omega arith)
  other_suc (x ∷ row) zero h e = rw (white_none row, e)
  other_suc (x ∷ row) (suc k) h e = rw (other_suc row k (le_of_suc-le-suc h) e)

  pub white_here : (row : List ℕ) (k : ℕ) → 0 < k → k ≤ length row → white (get_or row (k - 1) 0) ≡ true → after_white white row k ≡ k
  white_here row zero p h e = absurd (omega arith)
  white_here row (suc k) p h e = white_suc row k h (rw sub-one at e)

  pub white_before : (row : List ℕ) (k : ℕ) → 0 < k → k ≤ length row → white (get_or row (k - 1) 0) ≡ false →
      after_white white row k ≡ after_white white row (k - 1)
  white_before row zero p h e = absurd (omega arith)
  white_before row (suc k) p h e = rw sub-one (other_suc row k h (rw sub-one at e))

-- k is the place after the last white space among the first n: it is behind one, or 0, and none stands from k on
pub record LastWhite (white : ℕ → Bool) (row : List ℕ) (n k : ℕ) : Type 0 where
  pub within : k ≤ n
  pub behind : 0 < k → white (get_or row (k - 1) 0) ≡ true
  pub none : (j : ℕ) → k ≤ j → j < n → white (get_or row j 0) ≡ false

pub white_last : (white : ℕ → Bool) (row : List ℕ) (n : ℕ) → n ≤ length row → LastWhite white row n (after_white white row n)
white_last white row zero h =
    rw (white_none white row) (record { within = omega arith; behind = λ p. absurd (omega arith); none = λ j a b. absurd (omega arith) })
white_last white row (suc n) h = go (white (get_or row n 0)) refl (white_last white row n (omega arith))
  where
    go : (b : Bool) → white (get_or row n 0) ≡ b → LastWhite white row n (after_white white row n) → LastWhite white row (suc n) (after_white white row (suc n))
    go true e rest = rw (white_suc white row n h e) (record { within = omega arith; behind = λ p. rw sub-one e; none = λ j a b. absurd (omega arith) })
    go false e rest = rw (other_suc white row n h e)
        (record { within = omega (arith, rest.within); behind = rest.behind; none = λ j a b. at j a b (ℕ_discrete j n) })
      where
        at : (j : ℕ) → after_white white row n ≤ j → j < suc n → Dec (j ≡ n) → white (get_or row j 0) ≡ false
        at j a b (yes q) = ap (λ (m : ℕ). white (get_or row m 0)) q ∙ e
        at j a b (no q) = rest.none j a (omega arith)
