-- `edit_folds::keep_folds` meets its contract. The invariant of its loop: i folds are passed, and the w of them that are kept stand at the front.
-- Assumes nothing.
use Rattle.edit_folds.specs.Folds.{mapped_row}
use Rattle.edit_folds.proofs.Mapped.{Moved}
use Rattle.edit_folds.proofs.keep_folds.Given as goal

abbrev pub invariant-loop-i : goal.invariant-loop-i
invariant-loop-i l = Moved (mapped_row l.r1 l.r2 l.k) l.initial.folds l.n l.i l.w l.folds
