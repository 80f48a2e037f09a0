-- `row_search::find::next_on_row` meets its contract. The invariant of its loop: the first match from the column on is the first from i on.
-- Assumes nothing.
use Rattle.lists.proofs.Kit.{◌≡◌, length}
use Rattle.row_search.specs.Nearest.{first_in}
use Rattle.row_search.specs.Find.{is}
use Rattle.row_search.proofs.find.next_on_row.Given as goal

abbrev pub invariant-loop-i : goal.invariant-loop-i
invariant-loop-i l = first_in (is l.row l.sought) l.from (length l.row) ≡ first_in (is l.row l.sought) l.i (length l.row)
