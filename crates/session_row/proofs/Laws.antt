-- Laws of command rows: what a comparison tells, the value of digits, and a row's count. Assumes nothing.
use Rattle.lists.proofs.Kit.{◌≡◌, refl, ap, sym, ◌∙◌, List, [], ◌∷◌, Bool, ◌&&◌, eqb, ℕ, ◌+◌, ◌*◌, ◌-◌, ◌^◌, ◌≤◌, ◌<◌, pow-suc, pow-le-pow_right, add-one, arith, length, get_or, take, drop, Some, None}
use Rattle.lists.proofs.Kit.{drop_of_length-le, length-drop, take_all, lt-ltb, le-ltb, le-leb, lt-leb}
use Rattle.std.specs.Str.{bytes_eq}
use Rattle.lists.specs.Lists.{up_to, is_same}
use Rattle.lists.proofs.Lists.{drop_at}
use Rattle.lists.proofs.Same.{same_true}
use Rattle.session_row.specs.Commands.{digits_from, digits_of, count_in, Same}

pub same_told : (a b : List ℕ) {r : Bool} → is_same a b ≡ r → Same a b r
same_told a b e = record { is = sym e; equal = λ h. same_true a b (e ∙ h) }

-- what `==` of std tells
same_is : (a b : List ℕ) → bytes_eq a b ≡ is_same a b
unfolding is_same
same_is [] [] = refl
same_is [] (y ∷ b) = refl
same_is (x ∷ a) [] = refl
same_is (x ∷ a) (y ∷ b) = ap (λ t. eqb x y && t) (same_is a b)

pub eq_told : (a b : List ℕ) {r : Bool} → r ≡ bytes_eq a b → Same a b r
eq_told a b e = same_told a b (sym (e ∙ same_is a b))

-- digits
module _ (l : List ℕ) (n i : ℕ) where
  pub digits_on : i < length l → 48 ≤ get_or l i 0 → get_or l i 0 ≤ 57 → digits_from n (drop i l) ≡ digits_from (n * 10 + (get_or l i 0 - 48)) (drop (i + 1) l)
  unfolding digits_from
  digits_on h p q = rw (drop_at l i h, le-leb 48 (get_or l i 0) p, le-leb (get_or l i 0) 57 q)

  pub digits_low : i < length l → get_or l i 0 < 48 → digits_from n (drop i l) ≡ None
  unfolding digits_from
  digits_low h p = rw (drop_at l i h, lt-leb 48 (get_or l i 0) p)

  pub digits_high : i < length l → 48 ≤ get_or l i 0 → 57 < get_or l i 0 → digits_from n (drop i l) ≡ None
  unfolding digits_from
  digits_high h p q = rw (drop_at l i h, le-leb 48 (get_or l i 0) p, lt-leb (get_or l i 0) 57 q)

  pub digits_end : length l ≤ i → digits_from n (drop i l) ≡ Some n
  unfolding digits_from
  digits_end h = rw (drop_of_length-le l h)

pub digits_most : (n i x : ℕ) → n < 10 ^ i → x ≤ 57 → n * 10 + (x - 48) < 10 ^ (i + 1)
digits_most n i x h k = rw (add-one i) (omega (arith, pow-suc 10 i))

pub digits_fit : (n i : ℕ) → n < 10 ^ i → i ≤ 8 → n < 100000000
digits_fit n i h k = omega (arith, pow-le-pow_right {n = 10} (omega arith) {i = i} {j = 8} k)

pub digits_of_lem : (l : List ℕ) → 1 ≤ length l → length l ≤ 9 → digits_of l ≡ digits_from 0 l
unfolding digits_of
digits_of_lem l p q = rw (le-leb 1 (length l) p, le-leb (length l) 9 q)

pub digits_none : (l : List ℕ) → length l ≡ 0 → digits_of l ≡ None
unfolding digits_of
digits_none l e = rw e

pub digits_many : (l : List ℕ) → 9 < length l → digits_of l ≡ None
unfolding digits_of
digits_many l h = rw (le-leb 1 (length l) (omega arith), lt-leb (length l) 9 h)

-- a row's count, by where its first space stands
module _ (row : List ℕ) (e : ℕ) (at : e ≡ 0 + up_to 32 row) where
  pub space_at : e ≡ up_to 32 row
  space_at = omega arith

  pub count_none : e ≡ length row → count_in row ≡ Some 0
  unfolding count_in
  count_none h = rw (← space_at, le-ltb e (length row) (omega arith))

  pub count_some : e ≤ length row → (e ≡ length row → ⊥) → count_in row ≡ digits_of (take (length row - (e + 1)) (drop (e + 1) row))
  unfolding count_in
  count_some h n =
      rw (← space_at, lt-ltb e (length row) (omega arith), take_all (length row - (e + 1)) (drop (e + 1) row) (omega (arith, length-drop (e + 1) row)))
