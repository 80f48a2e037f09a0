-- Whether x lies in a range of an ascending table, by turns: each bound that is at most x turns it round. Assumes nothing.
use Rattle.lists.proofs.Kit.{◌≡◌, refl, List, [], ◌∷◌, Bool, true, false, not, cond, ◌&&◌, ◌||◌, ℕ, ◌≤◌, ◌<◌, dec_lt, arith, T, leb, ltb, ltb→lt, le-ltb, lt-ltb}
use Rattle.lists.proofs.Kit.{le-leb, lt-leb}
use Rattle.ranges.specs.Ranges.{in_table, climbs, ascending}
use Rattle.ranges.proofs.Ascending.{and_left, and_right, ascending_tail}

unfoldable pub flips : ℕ → List ℕ → Bool
flips x [] = false
flips x (b ∷ rest) = cond (leb b x) (not (flips x rest)) (flips x rest)

-- x is below the bounds
pub flips_below : (x b : ℕ) (bs : List ℕ) → T (climbs b bs) → x ≤ b → flips x bs ≡ false
unfolding flips
flips_below x b [] t h = refl
flips_below x b (a ∷ bs) t h =
    let by_ltb_lt = ltb→lt b a (and_left (ltb b a) (climbs a bs) t) in
    rw (lt-leb a x (omega arith)) (flips_below x a bs (and_right (ltb b a) (climbs a bs) t) (omega arith))

pub not_not : (b : Bool) → not (not b) ≡ b
not_not true = refl
not_not false = refl

two_more : (x s e : ℕ) (bs : List ℕ) → T (ascending (s ∷ e ∷ bs)) → in_table x bs ≡ flips x bs → in_table x (s ∷ e ∷ bs) ≡ flips x (s ∷ e ∷ bs)
unfolding flips
two_more x s e bs t later = go (dec_lt x s) (dec_lt x e)
  where
    climb : T (climbs e bs)
    climb = and_right (ltb s e) (climbs e bs) t

    up : s < e
    up = ltb→lt s e (and_left (ltb s e) (climbs e bs) t)

    go : Dec (x < s) → Dec (x < e) → ((leb s x && ltb x e) || in_table x bs) ≡
        cond (leb s x) (not (cond (leb e x) (not (flips x bs)) (flips x bs))) (cond (leb e x) (not (flips x bs)) (flips x bs))
    go (yes h) k = rw (lt-leb s x h, lt-leb e x (omega (arith, up))) later
    go (no h) (yes k) = rw (le-leb s x (omega arith), lt-ltb x e k, lt-leb e x k, flips_below x e bs climb (omega arith))
    go (no h) (no k) = rw (le-leb s x (omega arith), le-ltb x e (omega arith), le-leb e x (omega arith), not_not (flips x bs)) later

pub flips_in : (x : ℕ) (bs : List ℕ) → T (ascending bs) → in_table x bs ≡ flips x bs
unfolding flips
flips_in x [] t = refl
flips_in x (s ∷ []) t = alone (leb s x)
  where
    alone : (p : Bool) → p ≡ cond p true false
    alone true = refl
    alone false = refl
flips_in x (s ∷ e ∷ bs) t = two_more x s e bs t (flips_in x bs (ascending_tail e bs (and_right (ltb s e) (climbs e bs) t)))
