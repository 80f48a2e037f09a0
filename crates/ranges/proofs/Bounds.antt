-- Laws of a table of bounds: how many bounds are at most x says whether x lies in a range (odd) or not (even); and the bounds from one on
-- that is above x do not matter. Assumes nothing.
use Rattle.lists.proofs.Kit.{◌≡◌, refl, ◌∙◌, sym, ap, List, [], ◌∷◌, ◌++◌, Bool, true, false, ◌&&◌, ◌||◌, ℕ, zero, suc, ◌%◌, ◌≤◌, ◌<◌, le_of_suc-le-suc}
use Rattle.lists.proofs.Kit.{not-suc-le-zero, arith, length, get_or, T, leb, ltb, eqb, le-ltb, lt-ltb, le-leb, lt-leb}
use Rattle.ranges.specs.Ranges.{in_table, climbs, ascending, UpTo}
use Rattle.ranges.proofs.Ascending.{and_right, climbs_all, ascending_tail}

odd : ℕ → Bool
odd zero = false
odd (suc zero) = true
odd (suc (suc n)) = odd n

odd_mod : (n : ℕ) → eqb (n % 2) 1 ≡ odd n
unfolding odd
odd_mod zero = refl
odd_mod (suc zero) = refl
odd_mod (suc (suc n)) = let remainder_is : suc (suc n) % 2 ≡ n % 2 = omega arith in ap (λ (m : ℕ). eqb m 1) remainder_is ∙ odd_mod n

-- two bounds fewer
rest : {s e x : ℕ} {bs : List ℕ} {r : ℕ} → UpTo (s ∷ e ∷ bs) x (suc (suc r)) → UpTo bs x r
rest h =
    record {
      inside = omega (arith, h.inside);
      below = λ k l. h.below (suc (suc k)) (omega arith);
      above = λ k l m. h.above (suc (suc k)) (omega arith) (omega arith);
    }

-- x is below every bound
pub none : {x : ℕ} {bs : List ℕ} → ((k : ℕ) → k < length bs → x < get_or bs k 0) → UpTo bs x 0
none h = record { inside = omega arith; below = λ k l. absurd (not-suc-le-zero l); above = λ k l. h k }

odd_in : (x : ℕ) (bs : List ℕ) (r : ℕ) → UpTo bs x r → odd r ≡ in_table x bs
unfolding odd
odd_in x [] zero h = refl
odd_in x [] (suc r) h = absurd (not-suc-le-zero h.inside)
odd_in x (s ∷ []) zero h = simp (lt-leb _ _ (h.above 0 (omega arith) (omega arith)))
odd_in x (s ∷ []) (suc zero) h = simp (le-leb _ _ (h.below 0 (omega arith)))
odd_in x (s ∷ []) (suc (suc r)) h = absurd (not-suc-le-zero (le_of_suc-le-suc h.inside))
odd_in x (s ∷ e ∷ bs) zero h = simp (lt-leb _ _ (h.above 0 (omega arith) (omega arith)))
    (odd_in x bs zero (none (λ k m. h.above (suc (suc k)) (omega arith) (omega arith))))
odd_in x (s ∷ e ∷ bs) (suc zero) h = simp (le-leb _ _ (h.below 0 (omega arith)), lt-ltb _ _ (h.above 1 (omega arith) (omega arith)))
odd_in x (s ∷ e ∷ bs) (suc (suc r)) h = simp (le-leb _ _ (h.below 0 (omega arith)), le-ltb _ _ (h.below 1 (omega arith))) (odd_in x bs r (rest h))

pub up_to_odd : {bs : List ℕ} {x : ℕ} (r : ℕ) → UpTo bs x r → eqb (r % 2) 1 ≡ in_table x bs
up_to_odd {bs} {x} r h = odd_mod r ∙ odd_in x bs r h

none_in : (x b : ℕ) (bs : List ℕ) → T (climbs b bs) → x ≤ b → in_table x bs ≡ false
unfolding odd
none_in x b bs t h = sym (odd_in x bs 0 (none (λ k m. omega (arith, climbs_all b bs t k m))))

-- the bounds from one on that is above x do not matter
pub in_table_front :
    (x : ℕ) (front : List ℕ) (b : ℕ) (bs : List ℕ) → T (ascending (front ++ (b ∷ bs))) → x < b → in_table x (front ++ (b ∷ bs)) ≡ in_table x front
in_table_front x [] b bs t h = none_in x x (b ∷ bs) (rw (lt-ltb x b h) t) (omega arith)
in_table_front x (s ∷ []) b bs t h = rw (lt-ltb x b h, none_in x b bs (and_right (ltb s b) (climbs b bs) t) (omega arith)) (alone (leb s x))
  where
    alone : (p : Bool) → ((p && true) || false) ≡ p
    alone true = refl
    alone false = refl
in_table_front x (s ∷ e ∷ front) b bs t h = ap (λ (r : Bool). (leb s x && ltb x e) || r)
    (in_table_front x front b bs (ascending_tail e (front ++ (b ∷ bs)) (ascending_tail s (e ∷ front ++ (b ∷ bs)) t)) h)

-- the same of a table that goes on from b after a front
pub table_low :
    (x : ℕ) (front : List ℕ) (b : ℕ) (bs table : List ℕ) → table ≡ front ++ (b ∷ bs) → T (ascending table) → x < b → in_table x table ≡ in_table x front
table_low x front b bs table e t h = ap (in_table x) e ∙ in_table_front x front b bs (rw e at t) h
