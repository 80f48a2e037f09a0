-- `word_class_rows::rows::row_end` meets its contract. The invariant of its loop: r is the row of i, and not past the row sought, so that i is in the slice.
-- The measure is the length of the slice less i. Assumes nothing.
use Rattle.lists.proofs.Kit.{◌-◌, length}
use Rattle.word_class_rows.proofs.Loops.{Ahead}
use Rattle.word_class_rows.proofs.rows.row_end.Given as goal

abbrev pub invariant-loop-row : goal.invariant-loop-row
invariant-loop-row l = Ahead l.c l.row l.r l.i

abbrev pub decreases-loop-row : goal.decreases-loop-row
decreases-loop-row l = length l.c - l.i
