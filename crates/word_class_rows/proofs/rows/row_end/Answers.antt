-- `word_class_rows::rows::row_end` meets its contract. The invariant of its loop: r is the row of i, and not past the row sought, so that i is in the slice.
-- The measure is the length of the slice less i. Assumes nothing.
use Rattle.lists.proofs.Kit.{sym, ◌∙◌, arith}
use Rattle.word_class_rows.proofs.Loops.{ahead_there, ahead_row, ahead_char, ahead_end}
use Rattle.word_class_rows.proofs.rows.row_end.Goals as goal
use Rattle.word_class_rows.proofs.rows.row_end.Goals.{then-is_end+else-r-row, else-is_end}

pub loop-row-init : goal.loop-row-init
loop-row-init c = let required = c.requires in record { stands = required.stands; not_past = required.not_past }

-- the end of the row
pub returns-then-r-row : goal.returns-then-r-row
returns-then-r-row c =
    ahead_end c.loop-row.invariant c.requires.in_row (sym c.is_end.ensures ∙ c.if-is_end.true) c.if-r-row.true

pub overflow_add-i : goal.overflow_add-i
overflow_add-i c =
    omega (arith, ahead_there c.loop-row.invariant c.requires.in_row)

-- the end of a row before it, and a character
pub loop-row-smaller : goal.loop-row-smaller
loop-row-smaller c =
    omega (arith, ahead_there c.loop-row.invariant c.requires.in_row)

pub loop-row-preserved : goal.loop-row-preserved
loop-row-preserved c =
    elim c.if-is_end.branch [
      | then-is_end+else-r-row w ↦ rw w.r-is (ahead_row c.loop-row.invariant c.requires.in_row (sym c.is_end.ensures ∙ w.if-is_end.true) w.if-r-row.false)
      | else-is_end w ↦ rw w.r-is (ahead_char c.loop-row.invariant c.requires.in_row (sym c.is_end.ensures ∙ w.if-is_end.false))
    ]
