-- Where each move leads to.
-- Definitions only; the laws are in `proofs/Going.antt`. Assumes nothing.
use Rattle.std.specs.Prelude.{ℕ, ◌+◌, ◌-◌, min, List}
use Rattle.lists.specs.Rounds.{rounds}
use Rattle.text.specs.Text.{row_len, last_col}
use Rattle.margins.specs.Margins.{first_non_blank, last_non_blank}
use Rattle.text.specs.declared.Position.{Position}
use Rattle.positions.specs.Positions.{in_row}
use Rattle.steps.specs.Steps.{times, space_fwd, backspace_back}
use Rattle.text_moves.specs.declared.Way.{Way}
use Rattle.text_moves.specs.declared.Way.TheVariants as way
use Rattle.text_moves.specs.Rows.{at_row, bottom, next_line, prev_line, this_line}
use Rattle.text_moves.specs.Sections.{section_back, section_on}
use Rattle.text_moves.specs.Paragraphs.{paragraph_prev, paragraph_next}

-- where a move with count n leads to. `GotoColumn` counts columns from 1; there count 0 acts as column 1 does. `{` is 123 and `}` is 125
abbrev pub gone : List ℕ → Way → ℕ → Position → Position
gone t way.Left n p = in_row p (p.col - times n)
gone t way.RightInLine n p = in_row p (min (p.col + times n) (last_col t p.row))
gone t way.RightToEnd n p = in_row p (min (p.col + times n) (row_len t p.row))
gone t way.SpaceFwd n p = rounds (space_fwd t) (times n) p
gone t way.BackspaceBack n p = rounds (backspace_back t) (times n) p
gone t way.LineStart n p = in_row p 0
gone t way.FirstNonBlank n p = in_row p (first_non_blank t p.row)
gone t way.LineEnd n p = in_row p (last_col t p.row)
gone t way.GotoColumn n p = in_row p (min (n - 1) (last_col t p.row))
gone t way.LastNonBlank n p = in_row p (last_non_blank t p.row)
gone t way.ParagraphPrev n p = paragraph_prev t n p
gone t way.ParagraphNext n p = paragraph_next t n p
gone t way.SectionBackward n p = section_back t 123 n p
gone t way.SectionForward n p = section_on t 123 n p
gone t way.SectionEndBackward n p = section_back t 125 n p
gone t way.SectionEndForward n p = section_on t 125 n p
gone t way.NextLine n p = next_line t n p
gone t way.PrevLine n p = prev_line t n p
gone t way.ThisLine n p = this_line t n p
gone t way.Top n p = at_row t 0
gone t way.Bottom n p = bottom t n
