-- A number up to 255 as it is written: one of the grammar, with the same value, and with no more digits than it was read with. Assumes nothing.
use Rattle.lists.proofs.Kit.{◌≡◌, ap, ◌∙◌, List, [], ◌∷◌, ◌++◌, true, ℕ, ◌+◌, ◌*◌, ◌-◌, ◌/◌, ◌%◌, ◌≤◌, ◌<◌, dec_lt, arith, length, le-leb}
use Rattle.lists.specs.Codes.{is_digit}
use Rattle.list_parts.specs.Numbers.{all_digits, value}
use Rattle.print.specs.Print.{decimal}
use Rattle.print.proofs.Laws.{decimal_small, decimal_more}
use Rattle.vim_grammar.specs.Grammar.{Number}
use Rattle.vim_reader.proofs.MachineLaws.{digit_high}
use Rattle.vim_laws.proofs.Numbers.{digits_first, digits_rest}

-- q says the same as p, and is not longer
abbrev pub Short : (List ℕ → Type 0) → List ℕ → List ℕ → Type 0
Short Says p q = Says q × (length q ≤ length p)

is_digit_lem : (n : ℕ) → n < 10 → is_digit (48 + n) ≡ true
is_digit_lem n h = rw (le-leb 48 (48 + n) (omega arith), le-leb (48 + n) 57 (omega arith))

-- the digits of numbers up to 255
two_digits : (v : ℕ) → 10 ≤ v → v < 100 → decimal v ≡ (48 + v / 10) ∷ (48 + v % 10) ∷ []
two_digits v h k = decimal_more v h (omega arith) ∙ ap (λ (l : List ℕ). l ++ ((48 + v % 10) ∷ [])) (decimal_small (v / 10) (omega arith))

three_digits : (v : ℕ) → 100 ≤ v → v ≤ 255 → decimal v ≡ (48 + v / 10 / 10) ∷ (48 + v / 10 % 10) ∷ (48 + v % 10) ∷ []
three_digits v h k = decimal_more v (omega arith) (omega arith)
    ∙ ap (λ (l : List ℕ). l ++ ((48 + v % 10) ∷ [])) (two_digits (v / 10) (omega arith) (omega arith))

-- as many digits as a value needs
value_nine : (ds : List ℕ) → all_digits ds ≡ true → 9 < value 0 ds → 1 < length ds
unfolding value
value_nine [] a h = absurd (omega arith)
value_nine (x ∷ []) a h = absurd (omega (arith, digit_high x (digits_first x [] a)))
value_nine (x ∷ y ∷ ds) a h = omega arith

value_most : (ds : List ℕ) → all_digits ds ≡ true → 99 < value 0 ds → 2 < length ds
unfolding value
value_most [] a h = absurd (omega arith)
value_most (x ∷ []) a h = absurd (omega (arith, digit_high x (digits_first x [] a)))
value_most (x ∷ y ∷ []) a h = absurd (omega (arith, digit_high x (digits_first x (y ∷ []) a), digit_high y (digits_first y [] (digits_rest x (y ∷ []) a))))
value_most (x ∷ y ∷ z ∷ ds) a h = omega arith

pub number_written : {ds : List ℕ} {v : ℕ} → Number ds v → Short (λ q. Number q v) ds (decimal v)
unfolding all_digits value
number_written {ds = ds} {v = v} n = go (dec_lt v 10) (dec_lt v 100)
  where
    go : Dec (v < 10) → Dec (v < 100) → Number (decimal v) v × (length (decimal v) ≤ length ds)
    go (yes h) k =
        let none : 0 * 10 + (48 + v - 48) ≡ v = omega arith in
        rw (decimal_small v h) (
          record { some = omega arith; all = rw (is_digit_lem v h); is = none; most = n.most },
          omega (arith, n.some),
        )
    go (no h) (yes k) =
        let is : (0 * 10 + (48 + v / 10 - 48)) * 10 + (48 + v % 10 - 48) ≡ v = omega arith in
        rw (two_digits v (omega arith) k) (
          record { some = omega arith; all = rw (is_digit_lem (v / 10) (omega arith), is_digit_lem (v % 10) (omega arith)); is = is; most = n.most },
          omega (arith, value_nine ds n.all (omega (arith, n.is))),
        )
    go (no h) (no k) =
        let is : ((0 * 10 + (48 + v / 10 / 10 - 48)) * 10 + (48 + v / 10 % 10 - 48)) * 10 + (48 + v % 10 - 48) ≡ v = omega arith in
        rw (three_digits v (omega arith) n.most) (
          record {
            some = omega arith;
            all = rw (is_digit_lem (v / 10 / 10) (omega (arith, n.most)), is_digit_lem (v / 10 % 10) (omega arith), is_digit_lem (v % 10) (omega arith));
            is = is;
            most = n.most;
          },
          omega (arith, value_most ds n.all (omega (arith, n.is))),
        )
