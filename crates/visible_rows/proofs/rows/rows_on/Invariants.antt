-- `visible_rows::rows::rows_on` meets its contract. The invariant of its loop: the n rounds from the first row are the `left` rounds from r.
-- The measure is `left`. Assumes nothing.
use Rattle.lists.specs.Rounds.{rounds}
use Rattle.visible_rows.specs.Visible.{step_row}
use Rattle.visible_rows.proofs.Visible.{Owes}
use Rattle.visible_rows.proofs.rows.rows_on.Given as goal

abbrev pub invariant-loop-left : goal.invariant-loop-left
invariant-loop-left l = Owes l.folds l.rows l.down (rounds (step_row l.folds l.rows l.down) l.n l.row) l.r l.left

abbrev pub decreases-loop-left : goal.decreases-loop-left
decreases-loop-left l = l.left
