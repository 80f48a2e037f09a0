-- The facts about one code point, by the number that stands for each. Cited by `call_rows::characters`. Assumes nothing.
use Rattle.std.specs.Prelude.{ℕ, cond, eqb}
use Rattle.chars.specs.Scalar.{is_scalar}
use Rattle.chars.specs.White.{is_white}
use Rattle.letters.specs.Letters.{is_letter}
use Rattle.widths.specs.declared.Ambiguous.TheVariants.{Narrow, Wide}
use Rattle.widths.specs.Widths.{width_as}
use Rattle.call_bytes.specs.Reply.{bit}
use Rattle.call_bytes.specs.declared.Told.{Told}
use Rattle.call_bytes.specs.declared.Told.TheVariants.{Value, Refused}

-- what is told of a character that is tested; 2 where it is no scalar value
abbrev pub tested : ℕ → ℕ → Told
tested x n = cond (is_scalar x) (Value n) (Refused 2)

-- the value of the fact that a number stands for; 100 where it stands for none
unfoldable pub fact : ℕ → ℕ → Told
fact op x =
    cond (eqb op 0) (Value (bit (is_scalar x)))
    (cond (eqb op 1) (tested x (bit (is_white x)))
    (cond (eqb op 2) (tested x (bit (is_letter x)))
    (cond (eqb op 3) (tested x (width_as Narrow x))
    (cond (eqb op 259) (tested x (width_as Wide x))
    (Refused 100)))))
