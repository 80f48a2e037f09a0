-- What filling a table answers and leaves. From document 02, #106. Definitions only. Assumes nothing.
use Rattle.std.specs.Prelude.{ℕ, ◌+◌, ◌≤◌, ◌≡◌, List, ◌++◌, cond, length, drop, eqb, ltb}
use Rattle.text_check.specs.Accept.{text_refusal}
use Rattle.text.specs.Text.{row_count, content_rows}
use Rattle.text.specs.declared.Counted.{Counted}
use Rattle.text.specs.declared.Counted.TheVariants.{Rows, Refused}
use Rattle.row_table.specs.Table.{row_starts}

-- 1 to 3: the text; then 15: fewer places than rows
unfoldable pub fill_refusal : List ℕ → List ℕ → ℕ
fill_refusal t starts = cond (eqb (text_refusal t) 0) (cond (ltb (length starts) (row_count t)) 15 0) (text_refusal t)

-- a table that holds the row starts of a text; its places behind them stay
abbrev pub table_of : List ℕ → List ℕ → List ℕ
table_of t starts = row_starts t ++ drop (row_count t) starts

-- what the writing of the rows that start in a part requires: places for them from `place` on, and offsets that fit
pub record PartRoom (starts : List ℕ) (place at : ℕ) (part : List ℕ) : Type 0 where
  pub room : place + row_count part ≤ length starts + 1
  pub short : at + length part ≤ 4294967295

-- and of those of a whole text
pub record TextRoom (starts t : List ℕ) : Type 0 where
  pub room : row_count t ≤ length starts
  pub short : length t ≤ 1048576

-- the answer r, and what the table holds then, place by place: on a refusal what it held before
pub record FillsTo (t starts : List ℕ) (r : Counted) (starts' : List ℕ) : Type 0 where
  pub answer : r ≡ cond (eqb (fill_refusal t starts) 0) (Rows (content_rows t)) (Refused (fill_refusal t starts))
  pub table : starts' ≡ cond (eqb (fill_refusal t starts) 0) (table_of t starts) starts
