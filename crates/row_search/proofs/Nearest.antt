-- Laws of the first and the last place that passes a test, as a loop uses them: one place on, the place itself, none.
-- What an answer says is in `proofs/Told.antt`.
-- Assumes nothing.
use Rattle.lists.proofs.Kit.{◌≡◌, refl, sym, ◌∙◌, Bool, true, false, cond, ◌&&◌, ℕ, zero, suc, ◌+◌, ◌-◌, ◌≤◌, ◌<◌, add-one, sub-one, arith, Some, None}
use Rattle.row_search.specs.Nearest.{first_from, first_in, last_below}

-- a test does not both pass and fail, and two that pass together pass
pub never : {b : Bool} → b ≡ true → b ≡ false → ⊥
never e f = let nonsense : true ≡ false = sym e ∙ f in let impossible : ◌≡◌ {A = ℕ} 0 1 = cc in omega arith

pub both : (a b : Bool) → (a && b) ≡ true → (a ≡ true) × (b ≡ true)
both true b e = (refl, e)
both false b e = absurd (never e refl)

module _ (p : ℕ → Bool) where
  from_suc : (i b : ℕ) → i < b → first_in p i b ≡ cond (p i) (Some i) (first_in p (i + 1) b)
  unfolding first_from
  from_suc i b h = let difference_is : b - i ≡ suc (b - (i + 1)) = omega arith in rw (difference_is, add-one)

  pub first_on : (i b : ℕ) → i < b → p i ≡ false → first_in p i b ≡ first_in p (i + 1) b
  first_on i b h e = from_suc i b h ∙ rw e

  pub first_stop : (i b : ℕ) → i < b → p i ≡ true → first_in p i b ≡ Some i
  first_stop i b h e = from_suc i b h ∙ rw e

  pub first_end : (i b : ℕ) → b ≤ i → first_in p i b ≡ None
  unfolding first_from
  first_end i b h = let difference_is : b - i ≡ 0 = omega arith in rw difference_is

  pub last_on : (i : ℕ) → 0 < i → p (i - 1) ≡ false → last_below p i ≡ last_below p (i - 1)
  unfolding last_below
  last_on zero h e = absurd (omega arith)
  last_on (suc i) h e = rw (sub-one, rw sub-one at e)

  pub last_stop : (i : ℕ) → 0 < i → p (i - 1) ≡ true → last_below p i ≡ Some (i - 1)
  unfolding last_below
  last_stop zero h e = absurd (omega arith)
  last_stop (suc i) h e = rw (sub-one, rw sub-one at e)

  pub last_end : (i : ℕ) → i ≤ 0 → last_below p i ≡ None
  unfolding last_below
  last_end i h = let i_is : i ≡ 0 = omega arith in rw i_is

-- two tests that agree where they are asked
module _ (p q : ℕ → Bool) where
  from_same : (i n : ℕ) → ((m : ℕ) → i ≤ m → m < i + n → p m ≡ q m) → first_from p i n ≡ first_from q i n
  unfolding first_from
  from_same i zero h = refl
  from_same i (suc n) h = rw (h i (omega arith) (omega arith), from_same (suc i) n (λ m l b. h m (omega arith) (omega arith)))

  pub first_same : (i b : ℕ) → ((m : ℕ) → i ≤ m → m < b → p m ≡ q m) → first_in p i b ≡ first_in q i b
  first_same i b h = from_same i (b - i) (λ m l u. h m l (omega arith))

  pub last_same : (b : ℕ) → ((m : ℕ) → m < b → p m ≡ q m) → last_below p b ≡ last_below q b
  unfolding last_below
  last_same zero h = refl
  last_same (suc b) h = rw (h b (omega arith), last_same b (λ m l. h m (omega arith)))
