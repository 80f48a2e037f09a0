-- Moves by paragraphs, `{` and `}` of motions.rs: the row is that of `find_paragraph`.
-- Definitions only. Assumes nothing.
use Rattle.std.specs.Prelude.{ℕ, ◌-◌, ◌≡◌, List, true, false, cond, eqb, Option, Some, None}
use Rattle.text.specs.Text.{last_col, last_row, position}
use Rattle.text.specs.Offsets.{IsLine}
use Rattle.text.specs.declared.Line.{Line}
use Rattle.row_walks.specs.Paragraphs.{paragraphs}
use Rattle.text.specs.declared.Position.{Position}
use Rattle.steps.specs.Steps.{times}

-- up to column 0 of the row, where the rounds lead to one
abbrev pub up_at : Position → Option Line → Position
up_at p (Some l) = position l.row 0
up_at p None = p

-- down to column 0 of the row, or to the last column of the last row with content
abbrev pub down_at : List ℕ → Position → Option Line → Position
down_at t p (Some l) = position l.row (cond (eqb l.row (last_row t)) (last_col t l.row) 0)
down_at t p None = p

abbrev pub paragraph_prev : List ℕ → ℕ → Position → Position
paragraph_prev t n p = up_at p (paragraphs t false (times n - 1) p.row)

abbrev pub paragraph_next : List ℕ → ℕ → Position → Position
paragraph_next t n p = down_at t p (paragraphs t true (times n - 1) p.row)

-- what the way down requires: the row with its start, and the last row with content
pub record DownTo (t : List ℕ) (last : ℕ) (l : Line) : Type 0 where
  pub line : IsLine t l
  pub last_is : last ≡ last_row t
