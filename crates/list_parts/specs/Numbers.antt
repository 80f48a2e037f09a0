-- What the contracts of `src/numbers.rt` cite: which parts of a list are numbers. Document 01, "Keyword lists".
-- Definitions only; the laws are in `proofs/NumberLaws.antt`. Assumes nothing.
use Rattle.std.specs.Prelude.{ℕ, ◌+◌, ◌*◌, ◌-◌, List, [], ◌∷◌, Bool, true, cond, ◌&&◌, eqb, ltb, Option, Some, None}
use Rattle.lists.specs.Codes.{is_digit}

unfoldable pub all_digits : List ℕ → Bool
all_digits [] = true
all_digits (x ∷ p) = is_digit x && all_digits p

-- the value of digits in base ten, after those whose value is n
unfoldable pub value : ℕ → List ℕ → ℕ
value n [] = n
value n (x ∷ p) = value (n * 10 + (x - 48)) p

-- digits alone, and a value below 2^32
abbrev pub number_from : ℕ → List ℕ → Option ℕ
number_from n p = cond (all_digits p && ltb (value n p) 0x100000000) (Some (value n p)) None

-- at least one digit
abbrev pub digits_of : List ℕ → Option ℕ
digits_of [] = None
digits_of (x ∷ p) = number_from 0 (x ∷ p)

-- one `+` may stand before them
abbrev pub number_of : List ℕ → Option ℕ
number_of [] = None
number_of (x ∷ p) = cond (eqb x 43) (digits_of p) (digits_of (x ∷ p))
