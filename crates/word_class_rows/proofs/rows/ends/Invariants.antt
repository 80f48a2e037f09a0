-- `word_class_rows::rows::ends` meets its contract. The invariant of its loop: the ends from a up to i are counted.
-- Assumes nothing.
use Rattle.word_class_rows.proofs.Loops.{Counted}
use Rattle.word_class_rows.proofs.rows.ends.Given as goal

abbrev pub invariant-loop-i : goal.invariant-loop-i
invariant-loop-i l = Counted l.c l.a l.n l.i
