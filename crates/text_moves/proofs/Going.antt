-- Where each move leads from a position in the text is a position of the text: a row of it, and at most the row's character count.
-- Assumes nothing.
use Rattle.lists.proofs.Kit.{List, true, false, ◌&&◌, ℕ, ◌+◌, ◌-◌, ◌≤◌, min, max, arith, eqb, ltb, leb}
use Rattle.lists.proofs.Rounds.{rounds_keep}
use Rattle.text.specs.Text.{row_at, row_len, content_rows}
use Rattle.text.proofs.Rows.{rows_pos}
use Rattle.margins.specs.Margins.{indent_of, solid_of}
use Rattle.row_walks.specs.Paragraphs.{paragraphs}
use Rattle.margins.proofs.Edging.{solid_le}
use Rattle.row_walks.proofs.Leading.{paragraphs_in}
use Rattle.text.specs.declared.Position.{Position}
use Rattle.positions.specs.Positions.{in_row, Inside}
use Rattle.steps.specs.Steps.{space_fwd, backspace_back}
use Rattle.steps.proofs.Staying.{either_in, position_in, space_in, backspace_in}
use Rattle.text_moves.specs.declared.Way.{Way}
use Rattle.text_moves.specs.declared.Way.TheVariants as way
use Rattle.text_moves.specs.Ways.{gone}
use Rattle.text_moves.proofs.Staying.{row_in, content_in, bottom_in, back_in, on_in, up_at_in, down_at_in}

col_in : (t : List ℕ) (p : Position) (i : Inside t p) (c : ℕ) → c ≤ row_len t p.row → Inside t (in_row p c)
col_in t p i c h = position_in t p.row c i.in_row h

pub gone_in : (t : List ℕ) (w : Way) (n : ℕ) (p : Position) → Inside t p → Inside t (gone t w n p)
gone_in t way.Left n p i = col_in t p i (p.col - max n 1) (omega (arith, i.in_col))
gone_in t way.RightInLine n p i = col_in t p i (min (p.col + max n 1) (row_len t p.row - 1)) (omega arith)
gone_in t way.RightToEnd n p i = col_in t p i (min (p.col + max n 1) (row_len t p.row)) (omega arith)
gone_in t way.SpaceFwd n p i = rounds_keep (Inside t) (space_fwd t) (space_in t) (max n 1) p i
gone_in t way.BackspaceBack n p i = rounds_keep (Inside t) (backspace_back t) (backspace_in t) (max n 1) p i
gone_in t way.LineStart n p i = col_in t p i 0 (omega arith)
gone_in t way.FirstNonBlank n p i = col_in t p i (min (indent_of (row_at t p.row)) (row_len t p.row - 1)) (omega arith)
gone_in t way.LineEnd n p i = col_in t p i (row_len t p.row - 1) (omega arith)
gone_in t way.GotoColumn n p i = col_in t p i (min (n - 1) (row_len t p.row - 1)) (omega arith)
gone_in t way.LastNonBlank n p i = col_in t p i (solid_of (row_at t p.row) - 1) (omega (arith, solid_le (row_at t p.row)))
gone_in t way.ParagraphPrev n p i = up_at_in t p i (paragraphs t false (max n 1 - 1) p.row) (paragraphs_in t false (max n 1 - 1) p.row i.in_row)
gone_in t way.ParagraphNext n p i = down_at_in t p i (paragraphs t true (max n 1 - 1) p.row) (paragraphs_in t true (max n 1 - 1) p.row i.in_row)
gone_in t way.SectionBackward n p i = back_in t p i 123 n
gone_in t way.SectionForward n p i = on_in t p i 123 n
gone_in t way.SectionEndBackward n p i = back_in t p i 125 n
gone_in t way.SectionEndForward n p i = on_in t p i 125 n
gone_in t way.NextLine n p i = either_in t (leb (content_rows t - 1) p.row) p _ i (content_in t (p.row + max n 1))
gone_in t way.PrevLine n p i = either_in t (eqb p.row 0) p _ i (row_in t (p.row - max n 1) (omega (arith, i.in_row)))
gone_in t way.ThisLine n p i = either_in t (ltb 0 (max n 1 - 1) && leb (content_rows t - 1) p.row) p _ i (content_in t (p.row + (max n 1 - 1)))
gone_in t way.Top n p i = row_in t 0 (rows_pos t)
gone_in t way.Bottom n p i = bottom_in t n (eqb n 0)
