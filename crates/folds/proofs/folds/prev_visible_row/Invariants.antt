-- `folds::folds::prev_visible_row` meets its contract. The invariant of its loop: the last row seen before r is the answer.
-- The measure is r. Assumes nothing.
use Rattle.lists.proofs.Kit.{◌≡◌}
use Rattle.folds.specs.Folds.{prev_visible}
use Rattle.folds.proofs.folds.prev_visible_row.Given as goal

abbrev pub invariant-loop-r : goal.invariant-loop-r
invariant-loop-r l = prev_visible l.folds l.row ≡ prev_visible l.folds l.r

abbrev pub decreases-loop-r : goal.decreases-loop-r
decreases-loop-r l = l.r
