-- Numbers without their sign: digits alone, of the same value, with no white space, comma or `-` among them. Assumes nothing.
use Rattle.lists.proofs.Kit.{◌≡◌, refl, ap, sym, List, [], ◌∷◌, ◌++◌, Bool, true, false, and-false, true≢false, ℕ, suc, ◌≤◌, ◌<◌, arith, length, eqb, leb, Some, None}
use Rattle.lists.proofs.Kit.{ne_eqb, leb-true, le-ltb, lt-leb}
use Rattle.lists.proofs.Both.{both}
use Rattle.lists.specs.Codes.{is_digit}
use Rattle.lists.specs.Lists.{up_to}
use Rattle.chars.specs.White.{whites, is_white}
use Rattle.list_parts.specs.Numbers.{all_digits, digits_of, number_of}
use Rattle.list_signs.specs.Signs.{none, leading, is_value}
use Rattle.list_signs.specs.Plain.{without}
use Rattle.list_signs.proofs.WhiteLaws.{no_white}
use Rattle.list_signs.proofs.WithoutLaws.{without_none}

digit_bounds : (x : ℕ) → is_digit x ≡ true → (48 ≤ x) × (x ≤ 57)
digit_bounds x e = let by_both = both (leb 48 x) (leb x 57) e in (leb-true 48 x by_both.0, leb-true x 57 by_both.1)

digit_not_white : (x : ℕ) → is_digit x ≡ true → is_white x ≡ false
unfolding is_white whites
digit_not_white x e =
    let by_digit_bounds = digit_bounds x e in
    rw (
      le-ltb x 0xe (omega (arith, by_digit_bounds.0)),
      and-false (leb 0x9 x),
      le-ltb x 0x21 (omega (arith, by_digit_bounds.0)),
      and-false (leb 0x20 x),
      lt-leb 0x85 x (omega (arith, by_digit_bounds.1)),
      lt-leb 0xa0 x (omega (arith, by_digit_bounds.1)),
      lt-leb 0x1680 x (omega (arith, by_digit_bounds.1)),
      lt-leb 0x2000 x (omega (arith, by_digit_bounds.1)),
      lt-leb 0x2028 x (omega (arith, by_digit_bounds.1)),
      lt-leb 0x202f x (omega (arith, by_digit_bounds.1)),
      lt-leb 0x205f x (omega (arith, by_digit_bounds.1)),
      lt-leb 0x3000 x (omega (arith, by_digit_bounds.1)),
    )

-- digits: what no code point of them is
pub digits_no_white : (p : List ℕ) → all_digits p ≡ true → no_white p ≡ true
unfolding all_digits no_white
digits_no_white [] h = refl
digits_no_white (x ∷ p) h = let by_both = both (is_digit x) (all_digits p) h in rw (digit_not_white x by_both.0) (digits_no_white p by_both.1)

pub digits_no_minus : (p r : List ℕ) → all_digits p ≡ true → up_to 45 (p ++ (45 ∷ r)) ≡ length p
unfolding all_digits up_to
digits_no_minus [] r h = refl
digits_no_minus (x ∷ p) r h =
    let by_both = both (is_digit x) (all_digits p) h in
    let by_digit_bounds = digit_bounds x by_both.0 in
    rw (ne_eqb x 45 (λ (e : x ≡ 45). omega (arith, by_digit_bounds.0))) (ap suc (digits_no_minus p r by_both.1))

pub digits_up_to : (p : List ℕ) → all_digits p ≡ true → up_to 45 p ≡ length p
unfolding all_digits up_to
digits_up_to [] h = refl
digits_up_to (x ∷ p) h =
    let by_both = both (is_digit x) (all_digits p) h in
    let by_digit_bounds = digit_bounds x by_both.0 in
    rw (ne_eqb x 45 (λ (e : x ≡ 45). omega (arith, by_digit_bounds.0))) (ap suc (digits_up_to p by_both.1))

-- a number without its sign
pub record Plain (p : List ℕ) (n : ℕ) : Type 0 where
  pub digits : List ℕ
  pub are : all_digits digits ≡ true
  pub some : 0 < length digits
  pub same : number_of digits ≡ Some n
  pub bare : leading digits ≡ none digits
  pub is : without p (leading p) ≡ digits

value_digits : (p : List ℕ) (n : ℕ) → digits_of p ≡ Some n → (all_digits p ≡ true) × (0 < length p)
value_digits [] n e = absurd (true≢false (sym (ap is_value e)))
value_digits (x ∷ p) n e = go (all_digits (x ∷ p)) refl
  where
    go : (b : Bool) → all_digits (x ∷ p) ≡ b → (all_digits (x ∷ p) ≡ true) × (0 < length (x ∷ p))
    go true w = (w, omega arith)
    go false w =
        let never : None ≡ Some n = rw w at e in
        absurd (true≢false (sym (ap is_value never)))

-- the first of digits is no sign
first_digit : (p : List ℕ) (n : ℕ) → digits_of p ≡ Some n → (number_of p ≡ Some n) × (leading p ≡ none p)
unfolding all_digits
first_digit [] n e = absurd (true≢false (sym (ap is_value e)))
first_digit (x ∷ p) n e =
    let by_value_digits = (value_digits (x ∷ p) n e).0 in
    let by_digit_bounds = digit_bounds x (both (is_digit x) (all_digits p) by_value_digits).0 in
    let other = ne_eqb x 43 (λ (w : x ≡ 43). omega (arith, by_digit_bounds.0)) in
    (rw other e, rw other)

pub plain_number : (p : List ℕ) (n : ℕ) → number_of p ≡ Some n → Plain p n
unfolding without
plain_number [] n e = absurd (true≢false (sym (ap is_value e)))
plain_number (x ∷ p) n e = go (eqb x 43) refl
  where
    go : (b : Bool) → eqb x 43 ≡ b → Plain (x ∷ p) n
    go true w =
        let digits_is : digits_of p ≡ Some n = rw w at e in
        let by_value_digits = value_digits p n digits_is in
        let by_first_digit = first_digit p n digits_is in
        record {
          digits = p;
          are = by_value_digits.0;
          some = by_value_digits.1;
          same = by_first_digit.0;
          bare = by_first_digit.1;
          is = rw w (without_none p (length p));
        }
    go false w =
        let digits_is : digits_of (x ∷ p) ≡ Some n = rw w at e in
        let by_value_digits = value_digits (x ∷ p) n digits_is in
        let by_first_digit = first_digit (x ∷ p) n digits_is in
        record {
          digits = x ∷ p;
          are = by_value_digits.0;
          some = by_value_digits.1;
          same = by_first_digit.0;
          bare = by_first_digit.1;
          is = rw w (ap (λ (q : List ℕ). x ∷ q) (without_none p (length p)));
        }
