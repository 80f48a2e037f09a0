-- Laws of a loop that seeks the first x at or after an index. Assumes nothing.
use Rattle.lists.proofs.Kit.{◌≡◌, sym, List, [], ◌∷◌, Bool, true, false, cond, ℕ, suc, ◌+◌, ◌≤◌, ◌<◌, add-one, arith, length, get_or, drop}
use Rattle.lists.proofs.Kit.{drop_of_length-le, eqb, eq-eqb, ne_eqb}
use Rattle.lists.specs.Lists.{up_to}
use Rattle.lists.proofs.Lists.{drop_at}

module _ (l : List ℕ) (i x : ℕ) where
  pub up_to_stop : i < length l → get_or l i 0 ≡ x → up_to x (drop i l) ≡ 0
  unfolding up_to
  up_to_stop h e = rw (drop_at l i h, eq-eqb _ _ e)

  pub up_to_on : i < length l → (get_or l i 0 ≡ x → ⊥) → up_to x (drop i l) ≡ up_to x (drop (i + 1) l) + 1
  unfolding up_to
  up_to_on h e = rw (drop_at l i h, ne_eqb _ _ e) (sym (add-one _))

  pub up_to_end : length l ≤ i → up_to x (drop i l) ≡ 0
  unfolding up_to
  up_to_end h = rw (drop_of_length-le l h)

pub up_to_most : (x : ℕ) (l : List ℕ) → up_to x l ≤ length l
unfolding up_to
up_to_most x [] = omega arith
up_to_most x (y ∷ l) = go (eqb y x) (up_to_most x l)
  where
    go : (b : Bool) → up_to x l ≤ length l → cond b 0 (suc (up_to x l)) ≤ suc (length l)
    go true h = omega arith
    go false h = omega arith
