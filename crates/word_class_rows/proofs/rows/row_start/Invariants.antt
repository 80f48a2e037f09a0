-- `word_class_rows::rows::row_start` meets its contract. The invariant of its loop: r is the row of the place behind those that are left, and not
-- before the row sought. Assumes nothing.
use Rattle.word_class_rows.proofs.Loops.{Behind}
use Rattle.word_class_rows.proofs.rows.row_start.Given as goal

abbrev pub invariant-loop-i : goal.invariant-loop-i
invariant-loop-i l = Behind l.c l.row l.r l.i
