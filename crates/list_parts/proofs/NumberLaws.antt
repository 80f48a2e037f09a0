-- Laws of numbers: reading on by one digit, and where reading stops. Assumes nothing.
use Rattle.lists.proofs.Kit.{◌≡◌, refl, ap, List, [], ◌∷◌, and-false, ℕ, ◌+◌, ◌*◌, ◌-◌, ◌≤◌, ◌<◌, arith, length, get_or, take, drop, drop_of_length-le, take_all, Some, None}
use Rattle.lists.proofs.Kit.{eq-eqb, ne_eqb, le-leb, lt-leb, le-ltb, lt-ltb}
use Rattle.list_parts.specs.Numbers.{all_digits, value, number_from, digits_of, number_of}
use Rattle.lists.proofs.Lists.{drop_at_of as drop_at}

value_grows : (n : ℕ) (p : List ℕ) → n ≤ value n p
unfolding value
value_grows n [] = omega arith
value_grows n (x ∷ p) = omega (arith, value_grows (n * 10 + (x - 48)) p)

-- too large stays too large
pub number_too_large : (n : ℕ) (p : List ℕ) → 0xffffffff < n → None ≡ number_from n p
number_too_large n p h = rw (le-ltb (value n p) 0x100000000 (omega (arith, value_grows n p)), and-false)

module _ (p : List ℕ) (i n : ℕ) (h : i < length p) where
  pub number_digit : 48 ≤ get_or p i 0 → get_or p i 0 ≤ 57 → number_from n (drop i p) ≡ number_from (n * 10 + (get_or p i 0 - 48)) (drop (i + 1) p)
  unfolding all_digits value
  number_digit u v = rw (drop_at p i 0 h, le-leb _ _ u, le-leb _ _ v)

  pub number_below : get_or p i 0 < 48 → None ≡ number_from n (drop i p)
  unfolding all_digits
  number_below u = rw (drop_at p i 0 h, lt-leb _ _ u)

  pub number_above : 57 < get_or p i 0 → None ≡ number_from n (drop i p)
  unfolding all_digits
  number_above u = rw (drop_at p i 0 h, lt-leb (get_or p i 0) 57 u, and-false)

pub number_end : (p : List ℕ) (i n : ℕ) → length p ≤ i → n ≤ 0xffffffff → Some n ≡ number_from n (drop i p)
unfolding all_digits value
number_end p i n h k = rw (drop_of_length-le p h, lt-ltb n 0x100000000 (omega arith))

pub digits_some : (p : List ℕ) → 0 < length p → digits_of p ≡ number_from 0 p
digits_some [] h = absurd (omega arith)
digits_some (x ∷ p) h = refl

pub digits_none : (p : List ℕ) → length p ≡ 0 → None ≡ digits_of p
digits_none [] h = refl
digits_none (x ∷ p) h = absurd (omega arith)

pub number_none : (p : List ℕ) → length p ≡ 0 → None ≡ number_of p
number_none [] h = refl
number_none (x ∷ p) h = absurd (omega arith)

pub number_plus : (p : List ℕ) → 0 < length p → get_or p 0 0 ≡ 43 → digits_of (take (length p - 1) (drop 1 p)) ≡ number_of p
number_plus [] h e = absurd (omega arith)
number_plus (x ∷ p) h e = rw (eq-eqb x 43 e) (ap digits_of (take_all (length (x ∷ p) - 1) p (omega arith)))

pub number_plain : (p : List ℕ) → 0 < length p → (get_or p 0 0 ≡ 43 → ⊥) → digits_of p ≡ number_of p
number_plain [] h e = absurd (omega arith)
number_plain (x ∷ p) h e = rw (ne_eqb x 43 e)
