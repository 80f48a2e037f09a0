-- What the inner walk seeks: the offset of a column. Definitions only. Assumes nothing.
use Rattle.std.specs.Prelude.{cond, List, ℕ, ◌+◌, ltb, Option, Some, None}
use Rattle.text.specs.Text.{row_len}
use Rattle.text.specs.Offsets.{row_start}

-- the offset of a column of the row, where a code point stands there
unfoldable pub column_of : List ℕ → ℕ → ℕ → Option ℕ
column_of t row col = cond (ltb col (row_len t row)) (Some (row_start t row + col)) None
