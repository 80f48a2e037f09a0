-- The signed row step: what a call hands on is read back from its bits, and a step is so many rounds down or up.
-- Assumes nothing.
use Rattle.lists.proofs.Kit.{◌≡◌, refl, sym, ap, subst, ◌∙◌, List, Bool, true, false, ℕ, zero, suc, ◌≤◌, max, arith, T, le-ltb}
use lib.IntN.{ℤ, pos, negsuc, neg_ℤ, ◌-ℤ◌, nat_abs, +ℤ_idl}
use lib.Signed.{lt_z, non_neg}
use mir.Syntax.{w64}
use mir.Val.{Fits, SFits, to_z, of_z}
use mir.Facts.{to_z-of_z}
use Rattle.lists.specs.Rounds.{rounds}
use Rattle.visible_rows.specs.Visible.{step_row, shown_row, vertical_row, delta_of}

-- a number that is not below 0 can be read unsigned
pub unsigned_fits : (z : ℤ) → SFits w64 z → lt_z z (pos 0) ≡ false → T (non_neg (to_z w64 (of_z w64 z))) × Fits w64 (nat_abs (to_z w64 (of_z w64 z)))
unsigned_fits (pos n) f e = rw (to_z-of_z f) (tt, record { fits = omega (arith, f.sfits) })
unsigned_fits (negsuc n) f e = let never : ◌≡◌ {A = ℕ} 0 1 = cc in absurd (omega arith)

-- 0 less a number is its negative
module _ (z : ℤ) (f : SFits w64 z) (g : SFits w64 (neg_ℤ z)) where
  minus_is : pos 0 -ℤ to_z w64 (of_z w64 z) ≡ neg_ℤ z
  minus_is = ap (λ (x : ℤ). pos 0 -ℤ x) (to_z-of_z f) ∙ +ℤ_idl (neg_ℤ z)

  pub minus_fits : SFits w64 (pos 0 -ℤ to_z w64 (of_z w64 z))
  minus_fits = subst (λ (x : ℤ). SFits w64 x) (sym minus_is) g

  pub minus_back : to_z w64 (of_z w64 (pos 0 -ℤ to_z w64 (of_z w64 z))) ≡ neg_ℤ z
  minus_back = ap (λ (x : ℤ). to_z w64 (of_z w64 x)) minus_is ∙ to_z-of_z g

pos_fits : (n : ℕ) → n ≤ 4294967295 → SFits w64 (pos n)
pos_fits n h = record { sfits = omega arith }

neg_fits : (n : ℕ) → n ≤ 4294967295 → SFits w64 (neg_ℤ (pos n))
neg_fits zero h = record { sfits = omega arith }
neg_fits (suc n) h = record { sfits = omega arith }

neg_neg_fits : (n : ℕ) → n ≤ 4294967295 → SFits w64 (neg_ℤ (neg_ℤ (pos n)))
neg_neg_fits zero h = record { sfits = omega arith }
neg_neg_fits (suc n) h = record { sfits = omega arith }

module _ (z : ℤ) (n : ℕ) (h : n ≤ 4294967295) (e : z ≡ pos n) where
  pub read_pos : to_z w64 (of_z w64 z) ≡ pos n
  read_pos = rw e (to_z-of_z (pos_fits n h))

  pub neg_asked : SFits w64 (neg_ℤ (to_z w64 (of_z w64 z)))
  neg_asked = rw read_pos (neg_fits n h)

  pub read_neg : (y : ℤ) → y ≡ neg_ℤ (to_z w64 (of_z w64 z)) → to_z w64 (of_z w64 y) ≡ neg_ℤ (pos n)
  read_neg y q = rw (q, read_pos) (to_z-of_z (neg_fits n h))

-- the step of a count
module _ (down : Bool) (count : ℕ) (h : count ≤ 4294967295) where
  delta_fits : (d : Bool) → SFits w64 (delta_of d count)
  delta_fits true = pos_fits (max count 1) (omega arith)
  delta_fits false = neg_fits (max count 1) (omega arith)

  delta_back_fits : (d : Bool) → SFits w64 (neg_ℤ (delta_of d count))
  delta_back_fits true = neg_fits (max count 1) (omega arith)
  delta_back_fits false = neg_neg_fits (max count 1) (omega arith)

  pub read_delta : (z : ℤ) → z ≡ delta_of down count → to_z w64 (of_z w64 z) ≡ delta_of down count
  read_delta z e = rw e (to_z-of_z (delta_fits down))

  pub delta_asked : (z : ℤ) → z ≡ delta_of down count → SFits w64 (neg_ℤ (to_z w64 (of_z w64 z)))
  delta_asked z e = rw (read_delta z e) (delta_back_fits down)

below : (z : ℤ) → lt_z z (pos 0) ≡ true → lt_z (neg_ℤ z) (pos 0) ≡ false
below (pos n) e = let by_le_ltb = le-ltb n 0 (omega arith) in let never : ◌≡◌ {A = ℕ} 0 1 = cc in absurd (omega arith)
below (negsuc n) e = le-ltb (suc n) 0 (omega arith)

down_is : (folds : List ℕ) (rows row : ℕ) (z : ℤ) → lt_z z (pos 0) ≡ false → rounds (step_row folds rows true) (nat_abs z) row ≡ vertical_row folds rows z row
unfolding vertical_row
down_is folds rows row (pos n) e = refl
down_is folds rows row (negsuc n) e = let never : ◌≡◌ {A = ℕ} 0 1 = cc in absurd (omega arith)

up_is : (folds : List ℕ) (rows row : ℕ) (z : ℤ) → lt_z z (pos 0) ≡ true →
    rounds (step_row folds rows false) (nat_abs (neg_ℤ z)) (shown_row folds rows row) ≡ vertical_row folds rows z row
unfolding vertical_row
up_is folds rows row (pos n) e = let by_le_ltb = le-ltb n 0 (omega arith) in let never : ◌≡◌ {A = ℕ} 0 1 = cc in absurd (omega arith)
up_is folds rows row (negsuc n) e = refl

-- a step is so many rounds: the sign tells the way, and the number without it is the count
module _ (folds : List ℕ) (rows row : ℕ) (z : ℤ) (f : SFits w64 z) where
  pub goes_down : lt_z (to_z w64 (of_z w64 z)) (pos 0) ≡ false → (n : ℕ) → n ≡ nat_abs (to_z w64 (of_z w64 z)) →
      rounds (step_row folds rows true) n row ≡ vertical_row folds rows z row
  goes_down e n m = rw (m, to_z-of_z f) (down_is folds rows row z (rw (to_z-of_z f) at e))

  module _ (g : SFits w64 (neg_ℤ z)) (e : lt_z (to_z w64 (of_z w64 z)) (pos 0) ≡ true) (y : ℤ) (q : y ≡ neg_ℤ (to_z w64 (of_z w64 z))) where
    read_back : to_z w64 (of_z w64 y) ≡ neg_ℤ z
    read_back = rw (q, to_z-of_z f) (to_z-of_z g)

    pub counts_up : lt_z (to_z w64 (of_z w64 y)) (pos 0) ≡ false
    counts_up = rw read_back (below z (rw (to_z-of_z f) at e))

    pub goes_up : (n : ℕ) → n ≡ nat_abs (to_z w64 (of_z w64 y)) → rounds (step_row folds rows false) n (shown_row folds rows row) ≡ vertical_row folds rows z row
    goes_up n m = rw (m, read_back) (up_is folds rows row z (rw (to_z-of_z f) at e))
