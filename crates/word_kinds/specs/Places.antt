-- Places of a text, their kinds, and the steps by which the word motions go: the "Internals" of motions.rs.
-- A place is a row and a column, which may be the row's length: the row's end is a place of its own. Over any classification of code points,
-- `kind`; that of the source is `kind_of`. Definitions only; the laws are in `proofs/`. Assumes nothing.
use Rattle.std.specs.Prelude.{ℕ, ◌+◌, ◌-◌, List, Bool, cond, ◌&&◌, ◌||◌, get_or, eqb, ltb}
use Rattle.chars.specs.White.{is_white}
use Rattle.text.specs.Text.{row_at, row_len, content_rows, position}
use Rattle.text.specs.declared.Position.{Position}

-- where a step leads: the Rust's `Option<Position>`
pub data Step : Type 0 where
  To : Position → Step
  Nowhere : Step

-- the kinds: white space 0, word 1, punctuation 2 (`CharKind`), and 3 the row's end, where the Rust's `char_at` has no character
abbrev pub space : ℕ
space = 0

abbrev pub end : ℕ
end = 3

-- `char_kind`: white space before all, then what `word` holds (or anything, for the big words), and the rest
unfoldable pub kind_of : (ℕ → Bool) → Bool → ℕ → ℕ
kind_of word big x = cond (is_white x) space (cond (big || word x) 1 2)

-- the kind of the character at a place
unfoldable pub kind_at : List ℕ → (ℕ → ℕ) → Position → ℕ
kind_at t kind p = cond (ltb p.col (row_len t p.row)) (kind (get_or (row_at t p.row) p.col 0)) end

-- `cls`: the row's end counts as white space
abbrev pub soft : ℕ → ℕ
soft k = cond (eqb k end) space k

abbrev pub cls : List ℕ → (ℕ → ℕ) → Position → ℕ
cls t kind p = soft (kind_at t kind p)

-- `col == 0 && line_empty(row)`
unfoldable pub on_empty_row : List ℕ → Position → Bool
on_empty_row t p = eqb p.col 0 && eqb (row_len t p.row) 0

-- the first place of the next row with content
unfoldable pub next_row : List ℕ → ℕ → Step
next_row t r = cond (ltb (r + 1) (content_rows t)) (To (position (r + 1) 0)) Nowhere

-- `step_forward`, over the row's end; `inc` and `dec`, onto it
unfoldable pub step_forward : List ℕ → Position → Step
step_forward t p = cond (ltb (p.col + 1) (row_len t p.row)) (To (position p.row (p.col + 1))) (next_row t p.row)

unfoldable pub inc : List ℕ → Position → Step
inc t p = cond (ltb p.col (row_len t p.row)) (To (position p.row (p.col + 1))) (next_row t p.row)

unfoldable pub dec : List ℕ → Position → Step
dec t p =
    cond (ltb 0 p.col) (To (position p.row (p.col - 1)))
    (cond (ltb 0 p.row) (To (position (p.row - 1) (row_len t (p.row - 1)))) Nowhere)

-- `end_of_buffer`: the end of the last row with content
unfoldable pub end_of_buffer : List ℕ → Position
end_of_buffer t = position (content_rows t - 1) (row_len t (content_rows t - 1))

-- on from a step, or else
abbrev pub further : {A : Type 0} → Step → (Position → A) → A → A
further (To q) f z = f q
further Nowhere f z = z
