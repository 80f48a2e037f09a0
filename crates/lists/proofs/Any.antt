-- Laws of `any`: of a loop that has found b so far, and of a value that is such. Assumes nothing.
use Rattle.lists.proofs.Kit.{◌≡◌, refl, sym, ◌∙◌, List, [], ◌∷◌, Bool, true, false, ◌||◌, or-true, ℕ, zero, suc, ◌+◌, ◌≤◌, ◌<◌, arith, length, get_or}
use Rattle.lists.proofs.Kit.{drop, drop_of_length-le}
use Rattle.lists.specs.Lists.{any}
use Rattle.lists.proofs.Lists.{drop_at}

module _ (p : ℕ → Bool) (l : List ℕ) (i : ℕ) where
  pub any_on : (b : Bool) → i < length l → any p l ≡ (b || any p (drop i l)) → any p l ≡ ((b || p (get_or l i 0)) || any p (drop (i + 1) l))
  unfolding any
  any_on true h e = e
  any_on false h e = e ∙ rw (drop_at l i h)

  pub any_end : (b : Bool) → length l ≤ i → any p l ≡ (b || any p (drop i l)) → any p l ≡ b
  unfolding any
  any_end true h e = e
  any_end false h e = e ∙ rw (drop_of_length-le l h)

-- a loop that looks at each place: what was found before i, or will be
pub record Finds (p : ℕ → Bool) (l : List ℕ) (found : Bool) (i : ℕ) : Type 0 where
  pub inside : i ≤ length l
  pub same : any p l ≡ (found || any p (drop i l))

pub finds_start : (p : ℕ → Bool) (l : List ℕ) → Finds p l false 0
finds_start p l = record { inside = omega arith; same = refl }

module _ {p : ℕ → Bool} {l : List ℕ} {found : Bool} {i : ℕ} (so_far : Finds p l found i) where
  pub finds_on : i < length l → Finds p l (found || p (get_or l i 0)) (i + 1)
  finds_on h = record { inside = omega arith; same = any_on p l i found h so_far.same }

  pub finds_end : length l ≤ i → found ≡ any p l
  finds_end h = sym (any_end p l i found h so_far.same)

pub any_there : (p : ℕ → Bool) (l : List ℕ) (i : ℕ) → i < length l → p (get_or l i 0) ≡ true → any p l ≡ true
unfolding any
any_there p [] i h e = absurd (omega arith)
any_there p (x ∷ l) zero h e = rw e
any_there p (x ∷ l) (suc i) h e = rw (any_there p l i (omega arith) e, or-true)
