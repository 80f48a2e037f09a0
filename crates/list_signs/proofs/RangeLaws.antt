-- Laws of a part as a range, and of its signs as the code tests them. Assumes nothing.
use Rattle.lists.proofs.Kit.{◌≡◌, refl, ap, ◌∙◌, List, true, false, ◌&&◌, ℕ, ◌+◌, ◌-◌, ◌≤◌, ◌<◌, arith, length, get_or, take, drop, length-drop, Option, Some, None}
use Rattle.lists.proofs.Kit.{get_or-eq_default, take_all, eqb, le-ltb, lt-ltb}
use Rattle.lists.specs.Lists.{up_to}
use Rattle.list_parts.specs.Numbers.{number_of}
use Rattle.list_tokens.specs.Grammar.{is_token, between, range_of}
use Rattle.list_signs.specs.Signs.{is_value}
use Rattle.list_signs.specs.Marks.{leads, seconds}

-- two numbers are a token
pub between_both : (a b : Option ℕ) → is_token (between a b) ≡ (is_value a && is_value b)
between_both (Some lo) (Some hi) = refl
between_both (Some lo) None = refl
between_both None b = refl

-- d is the place of the first `-`, or the part's length
module _ (p : List ℕ) (d : ℕ) (k : d ≡ 0 + up_to 45 (drop 0 p)) where
  pub no_range : length p ≤ d → is_token (range_of p) ≡ false
  no_range h = let up_to_is : up_to 45 p ≡ d = omega arith in rw (up_to_is, le-ltb _ _ h)

  pub both_range : d < length p → is_token (range_of p) ≡ (is_value (number_of (take d p)) && is_value (number_of (take (length p - (d + 1)) (drop (d + 1) p))))
  both_range h =
      let up_to_is : up_to 45 p ≡ d = omega arith in
      let size_at_most : length (drop (d + 1) p) ≤ length p - (d + 1) = omega (arith, length-drop (d + 1) p) in
      let front_is : take (length p - (d + 1)) (drop (d + 1) p) ≡ drop (d + 1) p = take_all (length p - (d + 1)) (drop (d + 1) p) size_at_most in
      rw (up_to_is, lt-ltb _ _ h, front_is) (between_both (number_of (take d p)) (number_of (drop (d + 1) p)))

  pub seconds_none : length p ≤ d + 1 → seconds p ≡ false
  seconds_none h = let up_to_is : up_to 45 p ≡ d = omega arith in rw (up_to_is, get_or-eq_default p 0 h)

  pub seconds_not : eqb (get_or p (d + 1) 0) 43 ≡ false → seconds p ≡ false
  seconds_not e = let up_to_is : up_to 45 p ≡ d = omega arith in rw (ap (λ (n : ℕ). eqb (get_or p (n + 1) 0) 43) up_to_is ∙ e)

  pub seconds_is : eqb (get_or p (d + 1) 0) 43 ≡ true → seconds p ≡ is_token (range_of p)
  seconds_is e = let up_to_is : up_to 45 p ≡ d = omega arith in rw (ap (λ (n : ℕ). eqb (get_or p (n + 1) 0) 43) up_to_is ∙ e)

pub leads_none : (p : List ℕ) → length p ≡ 0 → leads p ≡ false
leads_none p h = rw (get_or-eq_default p 0 {n = 0} (omega arith))

-- a range is two numbers
pub range_both : (p : List ℕ) → up_to 45 p < length p →
    is_token (range_of p) ≡ (is_value (number_of (take (up_to 45 p) p)) && is_value (number_of (drop (up_to 45 p + 1) p)))
range_both p h = rw (lt-ltb _ _ h) (between_both (number_of (take (up_to 45 p) p)) (number_of (drop (up_to 45 p + 1) p)))
