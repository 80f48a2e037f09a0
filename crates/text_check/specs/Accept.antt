-- Which texts are accepted. A text is a list of code points. From document 01, "Text, rows, carets" and "Refusal numbers".
-- Definitions only; the laws are in `proofs/Accepted.antt`. Assumes nothing.
use Rattle.std.specs.Prelude.{ℕ, List, Bool, cond, ◌&&◌, ◌||◌, length, eqb, ltb, leb}
use Rattle.lists.specs.Lists.{any}
use Rattle.chars.specs.Scalar.{not_scalar}

-- the line breaks that a text may not hold: U+000B to U+000D, U+0085, U+2028 and U+2029
abbrev pub is_break : ℕ → Bool
is_break x = (leb 0xb x && leb x 0xd) || (eqb x 0x85 || (eqb x 0x2028 || eqb x 0x2029))

-- the number that a text is refused with, 0 where it is accepted
unfoldable pub text_refusal : List ℕ → ℕ
text_refusal t = cond (ltb 1048576 (length t)) 1 (cond (any not_scalar t) 2 (cond (any is_break t) 3 0))

-- the line breaks below U+2028, the two from there on, and all that is from there on
abbrev pub is_low : ℕ → Bool
is_low x = (leb 0xb x && leb x 0xd) || eqb x 0x85

abbrev pub is_separator : ℕ → Bool
is_separator x = eqb x 0x2028 || eqb x 0x2029

abbrev pub is_high : ℕ → Bool
is_high x = leb 0x2028 x

-- the refusal for what is from there on
unfoldable pub high_refusal : List ℕ → ℕ
high_refusal t = cond (any not_scalar t) 2 (cond (any is_separator t) 3 0)
