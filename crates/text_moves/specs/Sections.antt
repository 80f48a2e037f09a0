-- Moves to rows that begin with a mark, as the section motions of motions.rs go.
-- Definitions only. Assumes nothing.
use Rattle.std.specs.Prelude.{ℕ, ◌-◌, ◌<◌, List}
use Rattle.text.specs.Text.{last_row, position}
use Rattle.row_walks.specs.Sections.{section_up, section_down}
use Rattle.text.specs.declared.Position.{Position}
use Rattle.positions.specs.declared.Entry.{Entry}
use Rattle.positions.specs.Positions.{Accepted}
use Rattle.steps.specs.Steps.{times}

-- both lead to column 0, and the way down stops at the last row with content
abbrev pub section_back : List ℕ → ℕ → ℕ → Position → Position
section_back t x n p = position (section_up t x (times n) p.row) 0

abbrev pub section_on : List ℕ → ℕ → ℕ → Position → Position
section_on t x n p = position (section_down t x (times n) p.row (last_row t - p.row)) 0

-- what they require: a position that was accepted, and a mark that is no separator
pub record Marked (t : List ℕ) (p : Position) (e : Entry) (x : ℕ) : Type 0 where
  pub accepted : Accepted t p e
  pub mark : 10 < x
