-- Positions: when a text and a position in it are refused, and what is known where they are not. From document 01, "Text, rows, carets" and "Refusal
-- numbers". Definitions only; the laws are in `proofs/Checks.antt`. Long by its refusals: each in its turn. Assumes nothing.
use Rattle.std.specs.Prelude.{ℕ, ◌+◌, ◌≤◌, ◌<◌, ◌≡◌, List, [], ◌∷◌, Bool, cond, ◌&&◌, length, eqb, ltb, leb}
use Rattle.chars.specs.Scalar.{is_scalar}
use Rattle.text_check.specs.Accept.{text_refusal}
use Rattle.text.specs.Text.{row_count, row_len, content_rows, position}
use Rattle.text.specs.Offsets.{row_start, Stands}
use Rattle.folds.specs.Folds.{fold_refusal}
use Rattle.text.specs.declared.Position.{Position}
use Rattle.positions.specs.declared.Entry.{Entry}

-- at another column of its row
abbrev pub in_row : Position → ℕ → Position
in_row p c = position p.row c

-- a position stands in the text: in one of its rows, and at most at the row's end
abbrev pub is_inside : List ℕ → Position → Bool
is_inside t p = ltb p.row (row_count t) && leb p.col (row_len t p.row)

unfoldable pub position_refusal : List ℕ → Position → ℕ
position_refusal t p = cond (is_inside t p) 0 4

-- a call's refusal: the lowest number that applies. The numbers of its inputs stand in the order of the table, each 0 where that input is accepted
unfoldable pub lowest : List ℕ → ℕ
lowest [] = 0
lowest (f ∷ rest) = cond (eqb f 0) (lowest rest) f

abbrev pub refusal_at : List ℕ → Position → ℕ
refusal_at t p = lowest (text_refusal t ∷ position_refusal t p ∷ [])

-- what the checks of a call with refusal f find out: that, or where the position's row starts and how many rows there are
abbrev pub refused_by : ℕ → Entry
refused_by f = record { refusal = f; start = 0; rows = 0; content = 0 }

abbrev pub found_at : List ℕ → Position → Entry
found_at t p = record { refusal = 0; start = row_start t p.row; rows = row_count t; content = content_rows t }

unfoldable pub entry_by : ℕ → List ℕ → Position → Entry
entry_by f t p = cond (eqb f 0) (found_at t p) (refused_by f)

abbrev pub entry_of : List ℕ → Position → Entry
entry_of t p = entry_by (refusal_at t p) t p

-- a call's refusal f with the character sought: that is refused with 2, after a text that is too long and before all else
unfoldable pub or_sought : ℕ → Bool → ℕ
or_sought f scalar = cond (eqb f 1) 1 (cond scalar f 2)

abbrev pub refusal_with : List ℕ → Position → ℕ → ℕ
refusal_with t p x = or_sought (refusal_at t p) (is_scalar x)

-- with folds: text, position, folds
abbrev pub refusal_folds : List ℕ → List ℕ → Position → ℕ
refusal_folds t folds p = lowest (text_refusal t ∷ position_refusal t p ∷ fold_refusal folds (row_count t) ∷ [])

-- the same from what the checks have found out
unfoldable pub or_folds : Entry → List ℕ → ℕ
or_folds e folds = cond (eqb e.refusal 0) (fold_refusal folds e.rows) e.refusal

-- a text and a position that no check refuses, and what the checks have found out of them
pub record Accepted (t : List ℕ) (p : Position) (e : Entry) : Type 0 where
  pub brief : length t ≤ 1048576
  pub here : Stands t p.row e.start (e.start + p.col)
  pub line : Stands t p.row e.start e.start
  pub room : row_len t p.row ≤ 1048576
  pub all_rows : e.rows ≡ row_count t
  pub content_rows : e.content ≡ content_rows t

-- a position in the text, as a statement
pub record Inside (t : List ℕ) (p : Position) : Type 0 where
  pub in_row : p.row < row_count t
  pub in_col : p.col ≤ row_len t p.row
