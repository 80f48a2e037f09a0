-- Every trimmed part stays the same token without its signs, and so does a part with white space around it. Assumes nothing.
use Rattle.lists.proofs.Kit.{◌≡◌, refl, ap, sym, ◌∙◌, List, [], ◌∷◌, ◌++◌, Bool, true, false, not, ℕ, ◌+◌, add-one, arith, length, take, drop, split_at, Some}
use Rattle.lists.proofs.Kit.{length-take-le}
use Rattle.lists.proofs.Both.{both}
use Rattle.lists.specs.Lists.{up_to}
use Rattle.chars.specs.White.{is_white}
use Rattle.list_parts.specs.Numbers.{number_of}
use Rattle.list_parts.specs.Parts.{trim_start, trim}
use Rattle.list_tokens.specs.Grammar.{is_token, range_of, token_of}
use Rattle.list_signs.specs.Signs.{none, leading, is_value, kept_signs}
use Rattle.list_signs.specs.Plain.{without}
use Rattle.list_signs.proofs.DigitLaws.{plain_number, digits_no_white, digits_no_minus, digits_up_to}
use Rattle.list_signs.proofs.MarkLaws.{range_inside, none_append}
use Rattle.list_signs.proofs.RangeLaws.{range_both, no_range}
use Rattle.list_signs.proofs.PartLaws.{Same, leading_length, up_to_found, value_of, range_token, range_signs, number_token}
use Rattle.list_signs.proofs.PartPlaces.{minus_not_white}
use Rattle.list_signs.proofs.TrimLaws.{start_none, trim_none}
use Rattle.list_signs.proofs.WhiteLaws.{no_white}
use Rattle.list_signs.proofs.WithoutLaws.{without_none, without_append}

-- the same of u, which is t without its signs
same_by : (t u : List ℕ) → without t (kept_signs t) ≡ u → token_of u ≡ token_of t → kept_signs u ≡ none u → trim u ≡ u → trim_start u ≡ u → Same t
same_by t u w a b c d = record { token = rw w a; bare = rw w b; trimmed = rw w c; starts = rw w d }

no_white_range : (a b : List ℕ) → no_white a ≡ true → no_white b ≡ true → no_white (a ++ (45 ∷ b)) ≡ true
unfolding no_white
no_white_range [] b h k = rw minus_not_white k
no_white_range (x ∷ a) b h k = let by_both = both (not (is_white x)) (no_white a) h in rw by_both.0 (no_white_range a b by_both.1 k)

-- a range a-b
same_range : (a b : List ℕ) (lo hi : ℕ) → up_to 45 (a ++ (45 ∷ b)) ≡ length a → number_of a ≡ Some lo → number_of b ≡ Some hi → Same (a ++ (45 ∷ b))
unfolding without
same_range a b lo hi u x y =
    let by_plain_number = plain_number a lo x in
    let by_plain_number_b = plain_number b hi y in
    let joined = by_plain_number.digits ++ (45 ∷ by_plain_number_b.digits) in
    let by_digits_no_minus = digits_no_minus by_plain_number.digits by_plain_number_b.digits by_plain_number.are in
    let without_is : without (a ++ (45 ∷ b)) (kept_signs (a ++ (45 ∷ b))) ≡ joined =
    ap (without (a ++ (45 ∷ b))) (range_signs a b lo hi u x y) ∙ without_append a (45 ∷ b) (leading a) (false ∷ leading b) (leading_length a)
    ∙ rw (by_plain_number.is, by_plain_number_b.is) in
    let bare : kept_signs joined ≡ none joined =
    range_signs by_plain_number.digits by_plain_number_b.digits lo hi by_digits_no_minus by_plain_number.same by_plain_number_b.same
    ∙ rw (by_plain_number.bare, by_plain_number_b.bare) (sym (none_append by_plain_number.digits (45 ∷ by_plain_number_b.digits))) in
    let clear = no_white_range by_plain_number.digits by_plain_number_b.digits (digits_no_white by_plain_number.digits by_plain_number.are)
    (digits_no_white by_plain_number_b.digits by_plain_number_b.are) in
    same_by (a ++ (45 ∷ b)) joined without_is
    (range_token by_plain_number.digits by_plain_number_b.digits lo hi by_digits_no_minus by_plain_number.same by_plain_number_b.same
    ∙ sym (range_token a b lo hi u x y)) bare (trim_none joined clear) (start_none joined clear)

same_number : (t : List ℕ) (n : ℕ) → is_token (range_of t) ≡ false → number_of t ≡ Some n → Same t
same_number t n r e =
    let by_plain_number = plain_number t n e in
    let digits = by_plain_number.digits in
    let up_to_is : up_to 45 digits ≡ 0 + up_to 45 (drop 0 digits) = omega arith in
    let none_in : is_token (range_of digits) ≡ false = no_range digits (up_to 45 digits) up_to_is (omega (arith, digits_up_to digits by_plain_number.are)) in
    let clear = digits_no_white digits by_plain_number.are in
    same_by t digits (rw (r, e) by_plain_number.is) (number_token digits n by_plain_number.same none_in ∙ sym (number_token t n e r))
    (rw (none_in, by_plain_number.same) by_plain_number.bare) (trim_none digits clear) (start_none digits clear)

same_other : (t : List ℕ) → is_token (range_of t) ≡ false → is_value (number_of t) ≡ false → trim t ≡ t → trim_start t ≡ t → Same t
same_other t r e a b = same_by t t (rw (r, e) (without_none t (length t))) refl (rw (r, e)) a b

-- a part that is trimmed
pub same_trimmed : (t : List ℕ) → trim t ≡ t → trim_start t ≡ t → Same t
same_trimmed t a b = go (is_token (range_of t)) refl (is_value (number_of t)) refl
  where
    d : ℕ
    d = up_to 45 t

    at : d ≡ 0 + up_to 45 (drop 0 t)
    at = omega arith

    go : (r : Bool) → is_token (range_of t) ≡ r → (n : Bool) → is_value (number_of t) ≡ n → Same t
    go false r true n = same_number t (value_of (number_of t) n).0 r (value_of (number_of t) n).1
    go false r false n = same_other t r n a b
    go true r n m =
        let by_range_inside = range_inside t r in
        let size : length (take d t) ≡ d = length-take-le d t (omega (arith, by_range_inside.1)) in
        let found : t ≡ take d t ++ (45 ∷ drop (d + 1) t) =
        split_at t d 0 by_range_inside.1 ∙ rw (up_to_found 45 t by_range_inside.1, add-one d) in
        let both = both _ _ (sym (range_both t by_range_inside.1) ∙ r) in
        let lo = value_of (number_of (take d t)) both.0 in
        let hi = value_of (number_of (drop (d + 1) t)) both.1 in
        let up_to_is : up_to 45 (take d t ++ (45 ∷ drop (d + 1) t)) ≡ length (take d t) = ap (up_to 45) (sym found) ∙ sym size in
        rw found (same_range (take d t) (drop (d + 1) t) lo.0 hi.0 up_to_is lo.1 hi.1)
