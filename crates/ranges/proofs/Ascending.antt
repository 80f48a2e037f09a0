-- Laws of an ascending table: each bound is below each later one. Assumes nothing.
use Rattle.lists.proofs.Kit.{ap, List, [], ◌∷◌, Bool, true, false, ◌&&◌, ⊎_elim, ℕ, zero, suc, ◌≤◌, ◌<◌, le_of_suc-le-suc, not-suc-le-zero, eq-or-lt_of_le}
use Rattle.lists.proofs.Kit.{le_of_eq, le_of_lt, arith, length, get_or, T, ltb, ltb→lt}
use Rattle.ranges.specs.Ranges.{climbs, ascending}

pub and_left : (a b : Bool) → T (a && b) → T a
and_left true b t = tt
and_left false b t = t

pub and_right : (a b : Bool) → T (a && b) → T b
and_right true b t = t
and_right false b t = absurd t

pub climbs_all : (b : ℕ) (bs : List ℕ) → T (climbs b bs) → (k : ℕ) → k < length bs → b < get_or bs k 0
climbs_all b [] t k h = absurd (not-suc-le-zero h)
climbs_all b (a ∷ bs) t zero h = ltb→lt b a (and_left (ltb b a) (climbs a bs) t)
climbs_all b (a ∷ bs) t (suc k) h =
    omega (arith, ltb→lt b a (and_left (ltb b a) (climbs a bs) t), climbs_all a bs (and_right (ltb b a) (climbs a bs) t) k (le_of_suc-le-suc h))

pub ascending_tail : (b : ℕ) (bs : List ℕ) → T (ascending (b ∷ bs)) → T (ascending bs)
ascending_tail b [] t = tt
ascending_tail b (a ∷ bs) t = and_right (ltb b a) (climbs a bs) t

pub ascending_lt : (bs : List ℕ) → T (ascending bs) → (p q : ℕ) → p < q → q < length bs → get_or bs p 0 < get_or bs q 0
ascending_lt [] t p q l h = absurd (not-suc-le-zero h)
ascending_lt (b ∷ bs) t zero zero l h = absurd (not-suc-le-zero l)
ascending_lt (b ∷ bs) t zero (suc q) l h = climbs_all b bs t q (le_of_suc-le-suc h)
ascending_lt (b ∷ bs) t (suc p) zero l h = absurd (not-suc-le-zero l)
ascending_lt (b ∷ bs) t (suc p) (suc q) l h = ascending_lt bs (ascending_tail b bs t) p q (le_of_suc-le-suc l) (le_of_suc-le-suc h)

pub ascending_le : (bs : List ℕ) → T (ascending bs) → (p q : ℕ) → p ≤ q → q < length bs → get_or bs p 0 ≤ get_or bs q 0
ascending_le bs t p q l h = ⊎_elim (λ e. le_of_eq (ap (λ (k : ℕ). get_or bs k 0) e)) (λ m. le_of_lt (ascending_lt bs t p q m h)) (eq-or-lt_of_le l)
