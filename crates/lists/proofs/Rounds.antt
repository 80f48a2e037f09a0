-- Laws of a round that is gone through so many times. Assumes nothing.
use Rattle.lists.proofs.Kit.{◌≡◌, refl, ap, sym, ◌∙◌, ℕ, zero, suc, ◌+◌, ◌-◌, ◌≤◌, ◌<◌, zero-add, arith}
use Rattle.lists.specs.Rounds.{rounds}

module _ {A : Type 0} (f : A → A) where
  -- one round of those that are left
  pub rounds_on : (n : ℕ) (p : A) → 0 < n → rounds f n p ≡ rounds f (n - 1) (f p)
  unfolding rounds
  rounds_on zero p h = absurd (omega arith)
  rounds_on (suc n) p h =
      let one : suc n - 1 ≡ n = omega arith in
      rw one

  pub rounds_none : (n : ℕ) (p : A) → n ≤ 0 → rounds f n p ≡ p
  unfolding rounds
  rounds_none zero p h = refl
  rounds_none (suc n) p h = absurd (omega arith)

  -- a round that leaves the place as it is ends them all
  pub rounds_still : (n : ℕ) (p : A) → f p ≡ p → rounds f n p ≡ p
  unfolding rounds
  rounds_still zero p e = refl
  rounds_still (suc n) p e = ap (rounds f n) e ∙ rounds_still n p e

  -- m rounds and then n are m + n
  pub rounds_add : (m n : ℕ) (p : A) → rounds f (m + n) p ≡ rounds f n (rounds f m p)
  unfolding rounds
  rounds_add zero n p = rw (zero-add n)
  rounds_add (suc m) n p =
      let one : suc m + n ≡ suc (m + n) = omega arith in
      rw one (rounds_add m n (f p))

-- what each round keeps, all of them keep
pub rounds_keep : {A : Type 0} (P : A → Type 0) (f : A → A) → ((p : A) → P p → P (f p)) → (n : ℕ) (p : A) → P p → P (rounds f n p)
unfolding rounds
rounds_keep P f h zero p i = i
rounds_keep P f h (suc n) p i = rounds_keep P f h n (f p) (h p i)

-- a counted motion of which one more is one and then the rest: it is so many rounds, and its counts add
module _ {A : Type 0} (f : ℕ → A → A) (more : (n : ℕ) (p : A) → 0 < n → f (n + 1) p ≡ f n (f 1 p)) where
  counts_rounds : (n : ℕ) (p : A) → 0 < n → f n p ≡ rounds (f 1) n p
  unfolding rounds
  counts_rounds zero p h = absurd (omega arith)
  counts_rounds (suc zero) p h = refl
  counts_rounds (suc (suc n)) p h =
      let one : suc (suc n) ≡ suc n + 1 = omega arith in
      ap (λ (x : ℕ). f x p) one ∙ more (suc n) p (omega arith) ∙ counts_rounds (suc n) (f 1 p) (omega arith)

  pub counts_add : (m n : ℕ) (p : A) → 0 < m → 0 < n → f (m + n) p ≡ f n (f m p)
  counts_add m n p h k = counts_rounds (m + n) p (omega arith) ∙ rounds_add (f 1) m n p ∙ ap (rounds (f 1) n) (sym (counts_rounds m p h))
      ∙ sym (counts_rounds n (f m p) k)
