-- What the contracts of `src/lib.rt` cite: what a row is refused for, and an answer that is a column.
-- From document 01, "Refusal numbers". Definitions only; the laws are in `proofs/Answers.antt`. Assumes nothing.
use Rattle.std.specs.Prelude.{ℕ, zero, suc, List, cond, length, ltb}
use Rattle.lists.specs.Lists.{any}
use Rattle.chars.specs.Scalar.{not_scalar}
use Rattle.row_check.specs.declared.Column.{Column}
use Rattle.row_check.specs.declared.Column.TheVariants.{At, Refused}

-- 1: more than 1,048,576 code points; 2: a value that is no scalar value; 0: accepted
unfoldable pub row_refusal : List ℕ → ℕ
row_refusal row = cond (ltb 1048576 (length row)) 1 (cond (any not_scalar row) 2 0)

-- the answer with this refusal number: at 0 the column, else the number
unfoldable pub column_of : ℕ → ℕ → Column
column_of zero column = At column
column_of (suc n) column = Refused (suc n)
