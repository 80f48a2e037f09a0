-- `row_columns::char_at` meets its contract. The invariant of its loop: the character sought is not among those passed, whose cells end at `visual`.
-- Assumes nothing.
use Rattle.chars.specs.Width.{width_with}
use Rattle.row_columns.proofs.Chars.{CharTo}
use Rattle.row_columns.proofs.char_at.Given as goal

abbrev pub invariant-loop-i : goal.invariant-loop-i
invariant-loop-i l = CharTo (width_with l.by) l.tab l.row l.target l.i l.visual
