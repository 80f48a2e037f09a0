-- Where the depth of a text passes a level: it grows by one at a time, and so stands on the level before it is over it.
-- Assumes nothing.
use Rattle.lists.proofs.Kit.{◌≡◌, ap, List, ℕ, zero, suc, ◌+◌, ◌-◌, ◌≤◌, ◌<◌, add-zero, ℕ_discrete, dec_lt, arith, length, get_or}
use Rattle.bracket_walks.proofs.Depth.{tally, tally_hit, tally_miss}

tally_grows : (x : ℕ) (t : List ℕ) (k : ℕ) → k < length t → tally x t k ≤ tally x t (suc k)
tally_grows x t k h = on (ℕ_discrete (get_or t k 0) x)
  where
    on : Dec (get_or t k 0 ≡ x) → tally x t k ≤ tally x t (suc k)
    on (yes e) = omega (arith, tally_hit x t k h e)
    on (no e) = omega (arith, tally_miss x t k h e)

-- where the depth by x and y, at most q less p at a and more at b, passes from the one to the other: it grows by one at a time, at an x
pub record Crossed (x y : ℕ) (t : List ℕ) (p q a b : ℕ) : Type 0 where
  pub at : ℕ
  pub from : a ≤ at
  pub below : at < b
  pub is : get_or t at 0 ≡ x
  pub level : tally x t at + p ≡ tally y t at + q

module _ (x y : ℕ) (t : List ℕ) (p q : ℕ) where
  abbrev Over : ℕ → Type 0
  Over b = tally y t b + q < tally x t b + p

  crossing : (a n : ℕ) → a + n ≤ length t → (Over a → ⊥) → Over (a + n) → Crossed x y t p q a (a + n)
  crossing a zero l h g = absurd (h (rw add-zero at g))
  crossing a (suc n) l h g = on (dec_lt (tally y t b + q) (tally x t b + p)) (ℕ_discrete (get_or t b 0) x) (crossing a n (omega arith) h)
    where
      b : ℕ
      b = a + n

      end : (z : ℕ) → tally z t (a + suc n) ≡ tally z t (suc b)
      end z = ap (tally z t) (omega arith)

      on : Dec (Over b) → Dec (get_or t b 0 ≡ x) → (Over b → Crossed x y t p q a b) → Crossed x y t p q a (a + suc n)
      on (yes m) d ih = let by_ih =
          ih m in record { at = by_ih.at; from = by_ih.from; below = omega (arith, by_ih.below); is = by_ih.is; level = by_ih.level }
      on (no m) (yes e) ih =
          let by_tally_hit = tally_hit x t b (omega arith) e in
          record { at = b; from = omega arith; below = omega arith; is = e; level = omega (arith, end x, end y, tally_grows y t b (omega arith)) }
      on (no m) (no e) ih = absurd (omega (arith, end x, end y, tally_grows y t b (omega arith), tally_miss x t b (omega arith) e))

  pub cross : (a b : ℕ) → a ≤ b → b ≤ length t → (Over a → ⊥) → Over b → Crossed x y t p q a b
  cross a b l h g m = let sum_is_lem : a + (b - a) ≡ b = omega arith in rw sum_is_lem at (crossing a (b - a) (rw sum_is_lem h) g (rw sum_is_lem m))
