-- Where the rows of a text start, kept in the first places of a lent table, with the number of its rows with content beside it.
-- From document 02, #106. Definitions only; the laws are in `proofs/`. Assumes nothing.
use Rattle.std.specs.Prelude.{ℕ, suc, ◌≤◌, ◌≡◌, List, [], ◌∷◌, Bool, cond, ◌&&◌, length, take, eqb, ltb}
use Rattle.lists.specs.Lists.{is_same}
use Rattle.text.specs.Text.{row_count, content_rows}

-- the rows that start in a part of a text: behind each of its separators. The part begins at the offset `at`
unfoldable pub starts_from : ℕ → List ℕ → List ℕ
starts_from at [] = []
starts_from at (x ∷ part) = let later = starts_from (suc at) part in cond (eqb x 10) (suc at ∷ later) later

-- where every row starts, the last empty one too
abbrev pub row_starts : List ℕ → List ℕ
row_starts t = 0 ∷ starts_from 0 t

-- the first places of the table and the number beside it are the text's own; what stands behind is not looked at
abbrev pub is_table : List ℕ → List ℕ → ℕ → Bool
is_table t starts content = is_same (take (row_count t) starts) (row_starts t) && eqb content (content_rows t)

-- the text has so many rows, and the first places are its row starts
abbrev pub holds_rows : List ℕ → ℕ → List ℕ → Bool
holds_rows t rows starts = eqb rows (row_count t) && is_same (take (row_count t) starts) (row_starts t)

-- 15: fewer places than are needed; then 16: another table than the text's
unfoldable pub table_refusal : ℕ → List ℕ → List ℕ → ℕ → ℕ
table_refusal need t starts content = cond (ltb (length starts) need) 15 (cond (is_table t starts content) 0 16)

-- what the test that a table holds so many rows requires: no fewer than the text has, and a place for each
pub record Asked (t starts : List ℕ) (rows : ℕ) : Type 0 where
  pub enough : row_count t ≤ rows
  pub room : rows ≤ length starts

-- what the check of a table requires: a text of so many rows, and no fewer places to be needed
pub record Needed (t : List ℕ) (rows need : ℕ) : Type 0 where
  pub rows_are : rows ≡ row_count t
  pub enough : rows ≤ need
