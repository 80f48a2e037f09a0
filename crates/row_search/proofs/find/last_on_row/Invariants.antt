-- `row_search::find::last_on_row` meets its contract. The invariant of its loop: the last match before the column is the last of those left.
-- Assumes nothing.
use Rattle.lists.proofs.Kit.{◌≡◌, List, ℕ, ◌≤◌, length}
use Rattle.row_search.specs.Nearest.{last_below}
use Rattle.row_search.specs.Find.{is}
use Rattle.row_search.proofs.find.last_on_row.Given as goal

pub record Passed (row : List ℕ) (upto sought i : ℕ) : Type 0 where
  pub within : i ≤ length row
  pub rest : last_below (is row sought) upto ≡ last_below (is row sought) i

abbrev pub invariant-loop-b : goal.invariant-loop-b
invariant-loop-b l = Passed l.row l.upto l.sought l.b
