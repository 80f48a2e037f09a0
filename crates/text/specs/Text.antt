-- What a text is: its rows, and those with content. A text is a list of code points.
-- From document 01, "Text, rows, carets". Definitions only; the laws are in `proofs/`. Assumes nothing.
use Rattle.std.specs.Prelude.{◌≡◌, ℕ, ◌+◌, ◌-◌, ◌≤◌, List, [], ◌∷◌, cond, ◌&&◌, length, get_or, eqb, ltb}
unfoldable pub use Rattle.lists.specs.Lists.{on_first}
use Rattle.text_check.specs.Accept.{text_refusal}
use Rattle.text.specs.declared.Position.{Position}
use Rattle.text.specs.declared.Counted.{Counted}
use Rattle.text.specs.declared.Counted.TheVariants.{Rows, Refused}

-- a position by its row and column
abbrev pub position : ℕ → ℕ → Position
position r c = record { row = r; col = c }

-- the rows of a text: the empty text has one empty row, and each U+000A ends a row and begins the next
unfoldable pub rows : List ℕ → List (List ℕ)
rows [] = [] ∷ []
rows (x ∷ t) = cond (eqb x 10) ([] ∷ rows t) (on_first x (rows t))

abbrev pub row_count : List ℕ → ℕ
row_count t = length (rows t)

abbrev pub row_at : List ℕ → ℕ → List ℕ
row_at t r = get_or (rows t) r []

abbrev pub row_len : List ℕ → ℕ → ℕ
row_len t r = length (row_at t r)

-- r is how many separators a part has, one fewer than its rows
pub record Separators (part : List ℕ) (r : ℕ) : Type 0 where
  pub count : r + 1 ≡ row_count part
  pub inside : r ≤ length part

-- the last column of a row: 0 of an empty one
abbrev pub last_col : List ℕ → ℕ → ℕ
last_col t r = row_len t r - 1

-- one fewer than the rows if the last row is empty and isn't row 0, else all of them
abbrev pub content_rows : List ℕ → ℕ
content_rows t = cond (ltb 1 (row_count t) && eqb (row_len t (row_count t - 1)) 0) (row_count t - 1) (row_count t)

-- the last row with content
abbrev pub last_row : List ℕ → ℕ
last_row t = content_rows t - 1

-- the answer of `content_row_count`
abbrev pub content_row_count : List ℕ → Counted
content_row_count t = cond (eqb (text_refusal t) 0) (Rows (content_rows t)) (Refused (text_refusal t))
