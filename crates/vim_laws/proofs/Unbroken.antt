-- Parts without commas, and what a list with one as its first part is split into. Assumes nothing.
use Rattle.lists.proofs.Kit.{◌≡◌, refl, ap, List, [], ◌∷◌, ◌++◌, Bool, true, not, ◌&&◌, ℕ, arith, eqb, ne_eqb, not-true}
use Rattle.lists.specs.Lists.{on_first, split}
use Rattle.chars.specs.White.{is_white}
use Rattle.list_parts.specs.Numbers.{all_digits}
use Rattle.lists.proofs.Both.{both}
use Rattle.list_signs.proofs.WhiteLaws.{no_white}
use Rattle.vim_reader.proofs.MachineLaws.{digit_low}
use Rattle.vim_laws.proofs.Numbers.{digits_first, digits_rest}

-- without white space and commas
unfoldable pub no_comma : List ℕ → Bool
no_comma [] = true
no_comma (x ∷ p) = not (eqb x 44) && no_comma p

pub comma_append : (p q : List ℕ) → no_comma p ≡ true → no_comma q ≡ true → no_comma (p ++ q) ≡ true
unfolding no_comma
comma_append [] q a b = b
comma_append (x ∷ p) q a b = let by_both = both (not (eqb x 44)) (no_comma p) a in rw by_both.0 (comma_append p q by_both.1 b)

pub white_append : (p q : List ℕ) → no_white p ≡ true → no_white q ≡ true → no_white (p ++ q) ≡ true
unfolding no_white
white_append [] q a b = b
white_append (x ∷ p) q a b = let by_both = both (not (is_white x)) (no_white p) a in rw by_both.0 (white_append p q by_both.1 b)

pub digits_comma : (ds : List ℕ) → all_digits ds ≡ true → no_comma ds ≡ true
unfolding no_comma
digits_comma [] a = refl
digits_comma (x ∷ ds) a = rw (ne_eqb x 44 (λ e. omega (arith, digit_low x (digits_first x ds a)))) (digits_comma ds (digits_rest x ds a))

pub split_comma : (p r : List ℕ) → no_comma p ≡ true → split 44 (p ++ (44 ∷ r)) ≡ p ∷ split 44 r
unfolding split on_first no_comma
split_comma [] r h = refl
split_comma (x ∷ p) r h =
    let by_both = both (not (eqb x 44)) (no_comma p) h in
    rw (not-true (eqb x 44) by_both.0) (ap (on_first x) (split_comma p r by_both.1))

pub split_end : (p : List ℕ) → no_comma p ≡ true → split 44 p ≡ p ∷ []
unfolding split on_first no_comma
split_end [] h = refl
split_end (x ∷ p) h =
    let by_both = both (not (eqb x 44)) (no_comma p) h in
    rw (not-true (eqb x 44) by_both.0) (ap (on_first x) (split_end p by_both.1))
