-- Laws of digits behind digits: the value never falls, and within 255 it never passes `most_of`, which some digits reach. Assumes nothing.
use Rattle.lists.proofs.Kit.{◌≡◌, refl, sym, List, [], ◌∷◌, ◌++◌, Bool, true, false, ◌&&◌, true≢false, ℕ, ◌+◌, ◌*◌, ◌-◌, ◌≤◌, ◌<◌, dec_lt, ℕ_discrete, arith}
use Rattle.lists.specs.Codes.{is_digit}
use Rattle.list_parts.specs.Numbers.{all_digits, value}
use Rattle.vim_reader.specs.Machine.{most_of}
use Rattle.vim_reader.proofs.MachineLaws.{digit_high, most_one, most_two, most_mid, most_last, most_else}

pub digits_first : (x : ℕ) (ds : List ℕ) → all_digits (x ∷ ds) ≡ true → is_digit x ≡ true
unfolding all_digits
digits_first x ds e = go (is_digit x) e
  where
    go : (b : Bool) → (b && all_digits ds) ≡ true → b ≡ true
    go true f = refl
    go false f = f

pub digits_rest : (x : ℕ) (ds : List ℕ) → all_digits (x ∷ ds) ≡ true → all_digits ds ≡ true
unfolding all_digits
digits_rest x ds e = go (is_digit x) e
  where
    go : (b : Bool) → (b && all_digits ds) ≡ true → all_digits ds ≡ true
    go true f = f
    go false f = absurd (true≢false (sym f))

pub digits_append : (ds es : List ℕ) → all_digits ds ≡ true → all_digits es ≡ true → all_digits (ds ++ es) ≡ true
unfolding all_digits
digits_append [] es a b = b
digits_append (x ∷ ds) es a b = rw (digits_first x ds a) (digits_append ds es (digits_rest x ds a) b)

pub value_append : (n : ℕ) (ds es : List ℕ) → value n (ds ++ es) ≡ value (value n ds) es
unfolding value
value_append n [] es = refl
value_append n (x ∷ ds) es = value_append (n * 10 + (x - 48)) ds es

pub value_least : (n : ℕ) (ds : List ℕ) → n ≤ value n ds
unfolding value
value_least n [] = omega arith
value_least n (x ∷ ds) = omega (arith, value_least (n * 10 + (x - 48)) ds)

-- the value within 255 stays at or below the greatest
pub most_above : (v : ℕ) (ds : List ℕ) → all_digits ds ≡ true → value v ds ≤ 255 → value v ds ≤ most_of v
unfolding value
most_above v ds a h = go (ℕ_discrete v 1) (dec_lt 2 v) (dec_lt 24 v) (ℕ_discrete v 25)
  where
    one : (ds : List ℕ) → v ≡ 1 → all_digits ds ≡ true → value v ds ≤ 255 → value v ds ≤ 199
    one [] e b k = omega arith
    one (x ∷ []) e b k = omega (arith, digit_high x (digits_first x [] b))
    one (x ∷ y ∷ []) e b k = omega (arith, digit_high x (digits_first x (y ∷ []) b), digit_high y (digits_first y [] (digits_rest x (y ∷ []) b)))
    one (x ∷ y ∷ z ∷ fs) e b k = absurd (omega (arith, value_least (((v * 10 + (x - 48)) * 10 + (y - 48)) * 10 + (z - 48)) fs))

    mid : (ds : List ℕ) → 2 < v → all_digits ds ≡ true → value v ds ≤ 255 → value v ds ≤ v * 10 + 9
    mid [] e b k = omega arith
    mid (x ∷ []) e b k = omega (arith, digit_high x (digits_first x [] b))
    mid (x ∷ y ∷ fs) e b k = absurd (omega (arith, value_least ((v * 10 + (x - 48)) * 10 + (y - 48)) fs))

    big : (ds : List ℕ) → 25 < v → value v ds ≤ 255 → value v ds ≤ v
    big [] e k = omega arith
    big (x ∷ fs) e k = absurd (omega (arith, value_least (v * 10 + (x - 48)) fs))

    go : Dec (v ≡ 1) → Dec (2 < v) → Dec (24 < v) → Dec (v ≡ 25) → value v ds ≤ most_of v
    go (yes e) p q r = rw (most_one v e) (one ds e a h)
    go (no n) (no p) q r = rw (most_two v n (omega arith)) h
    go (no n) (yes p) (no q) r = rw (most_mid v p (omega arith)) (mid ds p a h)
    go (no n) (yes p) (yes q) (yes r) = rw (most_last v r) h
    go (no n) (yes p) (yes q) (no r) = rw (most_else v (omega arith)) (big ds (omega arith) h)

-- digits that lead to the greatest
pub record Tail (v : ℕ) : Type 0 where
  pub ds : List ℕ
  pub all : all_digits ds ≡ true
  pub is : value v ds ≡ most_of v
  pub most : most_of v ≤ 255

pub most_tail : (v : ℕ) → v ≤ 255 → Tail v
unfolding value all_digits
most_tail v h = go (ℕ_discrete v 0) (ℕ_discrete v 1) (ℕ_discrete v 2) (dec_lt 24 v) (ℕ_discrete v 25)
  where
    go : Dec (v ≡ 0) → Dec (v ≡ 1) → Dec (v ≡ 2) → Dec (24 < v) → Dec (v ≡ 25) → Tail v
    go (yes e) o t q r =
        let by_most_two = most_two v (λ z. omega arith) (omega arith) in
        record { ds = 50 ∷ 53 ∷ 53 ∷ []; all = refl; is = omega (arith, by_most_two); most = omega (arith, by_most_two) }
    go (no z) (yes e) t q r =
        let by_most_one = most_one v e in
        record { ds = 57 ∷ 57 ∷ []; all = refl; is = omega (arith, by_most_one); most = omega (arith, by_most_one) }
    go (no z) (no o) (yes e) q r =
        let by_most_two = most_two v o (omega arith) in
        record { ds = 53 ∷ 53 ∷ []; all = refl; is = omega (arith, by_most_two); most = omega (arith, by_most_two) }
    go (no z) (no o) (no t) (no q) r =
        let by_most_mid = most_mid v (omega arith) (omega arith) in
        record { ds = 57 ∷ []; all = refl; is = omega (arith, by_most_mid); most = omega (arith, by_most_mid) }
    go (no z) (no o) (no t) (yes q) (yes e) =
        let by_most_last = most_last v e in
        record { ds = 53 ∷ []; all = refl; is = omega (arith, by_most_last); most = omega (arith, by_most_last) }
    go (no z) (no o) (no t) (yes q) (no r) =
        let by_most_else = most_else v (omega arith) in
        record { ds = []; all = refl; is = sym by_most_else; most = omega (arith, by_most_else) }
