-- Moves to the first character of a row that is no blank: `+`, `-`, `_` and `G`, as motions.rs has them.
-- Definitions only. Assumes nothing.
use Rattle.std.specs.Prelude.{ℕ, ◌+◌, ◌-◌, ◌<◌, min, List, cond, ◌&&◌, eqb, ltb, leb}
use Rattle.margins.specs.Margins.{first_non_blank}
use Rattle.text.specs.Text.{last_row, position}
use Rattle.text.specs.declared.Position.{Position}
use Rattle.positions.specs.declared.Entry.{Entry}
use Rattle.positions.specs.Positions.{Accepted}
use Rattle.steps.specs.Steps.{times}

-- the first character of row r that is no blank
abbrev pub at_row : List ℕ → ℕ → Position
at_row t r = position r (first_non_blank t r)

-- rows are counted from 1; count 0 means the last
abbrev pub bottom : List ℕ → ℕ → Position
bottom t n = at_row t (cond (eqb n 0) (last_row t) (min (n - 1) (last_row t)))

-- from the last row with content on it stays, at its column too
abbrev pub next_line : List ℕ → ℕ → Position → Position
next_line t n p = cond (leb (last_row t) p.row) p (at_row t (min (p.row + times n) (last_row t)))

abbrev pub prev_line : List ℕ → ℕ → Position → Position
prev_line t n p = cond (eqb p.row 0) p (at_row t (p.row - times n))

-- so many rows down less one; from the last row with content on it stays, if it was to go down
abbrev pub this_line : List ℕ → ℕ → Position → Position
this_line t n p = cond (ltb 0 (times n - 1) && leb (last_row t) p.row) p (at_row t (min (p.row + (times n - 1)) (last_row t)))

-- what the way to a row requires: a position that was accepted, and a row of the text
pub record RowFrom (t : List ℕ) (p : Position) (e : Entry) (to : ℕ) : Type 0 where
  pub accepted : Accepted t p e
  pub in_row : to < e.rows
