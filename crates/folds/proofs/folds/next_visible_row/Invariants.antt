-- `folds::folds::next_visible_row` meets its contract. The invariant of its loop: the first row seen from r on is the answer.
-- The measure is the rows less r. Assumes nothing.
use Rattle.lists.proofs.Kit.{◌≡◌, List, false, ℕ, ◌-◌, ◌≤◌}
use Rattle.folds.specs.Folds.{any_fold, bad_fold, visible_from, next_visible}
use Rattle.folds.proofs.folds.next_visible_row.Given as goal

pub record Passed (folds : List ℕ) (rows row r : ℕ) : Type 0 where
  pub within : r ≤ rows
  pub good : any_fold (bad_fold rows) folds ≡ false
  pub rest : next_visible folds rows row ≡ visible_from folds r (rows - r)

abbrev pub invariant-loop-r : goal.invariant-loop-r
invariant-loop-r l = Passed l.folds l.rows l.row l.r

abbrev pub decreases-loop-r : goal.decreases-loop-r
decreases-loop-r l = l.rows - l.r
