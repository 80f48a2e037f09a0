-- Offsets: where the rows of a text stand in it. A place is a row and a column, and an offset of the text: the same thing.
-- From document 01, "Text, rows, carets". Definitions only; the laws are in `proofs/At.antt`, `Before.antt` and `Stands.antt`. Assumes nothing.
use Rattle.std.specs.Prelude.{ℕ, zero, suc, ◌+◌, ◌≤◌, ◌<◌, ◌≡◌, List, [], ◌∷◌, cond, length, drop, eqb}
use Rattle.text.specs.Text.{rows, row_count, row_len}
use Rattle.text.specs.declared.Line.{Line}

-- the offset of row r: the rows before it, with a separator after each
unfoldable pub start_in : List (List ℕ) → ℕ → ℕ
start_in rows zero = 0
start_in [] (suc r) = 0
start_in (row ∷ rest) (suc r) = suc (length row + start_in rest r)

abbrev pub row_start : List ℕ → ℕ → ℕ
row_start t r = start_in (rows t) r

-- row r, column c stands at the offset `at` of the text; the column may be the row's length
pub record At (t : List ℕ) (r c at : ℕ) : Type 0 where
  pub in_row : r < row_count t
  pub in_col : c ≤ row_len t r
  pub offset : at ≡ row_start t r + c

-- the offset `at` stands in row `row`, which begins at the offset `start`: a walk that keeps the row beside the offset
pub record Stands (t : List ℕ) (row start at : ℕ) : Type 0 where
  pub in_row : row < row_count t
  pub begins : start ≡ row_start t row
  pub from : start ≤ at
  pub in_col : at ≤ start + row_len t row
  pub within : at ≤ length t
  pub below : row ≤ at

-- a row with its start
abbrev pub line_at : List ℕ → ℕ → Line
line_at t r = record { row = r; start = row_start t r }

abbrev pub IsLine : List ℕ → Line → Type 0
IsLine t l = Stands t l.row l.start l.start

-- what a search for row r from above it has reached: that row, or the last one where the text has no row r
pub record Reached (t : List ℕ) (r : ℕ) (l : Line) : Type 0 where
  pub there : r < row_count t → l ≡ line_at t r
  pub short : row_count t ≤ r → l.row + 1 ≡ row_count t

-- the end of the row that has the offset `at`: the separator after it, or the end of the text
abbrev pub end_from : List ℕ → ℕ → ℕ
end_from t at = at + row_len (drop at t) 0

-- e is that end
pub record EndsAt (t : List ℕ) (at e : ℕ) : Type 0 where
  pub place : e ≡ end_from t at
  pub after : at ≤ e
  pub inside : e ≤ length t

-- the row of an offset: the separators before it
unfoldable pub row_of : List ℕ → ℕ → ℕ
row_of t zero = 0
row_of [] (suc at) = 0
row_of (x ∷ t) (suc at) = cond (eqb x 10) (suc (row_of t at)) (row_of t at)
