-- `row_tabs::leading_at` meets its contract. The invariant of its loop: all before x are blanks, and `visual` is where they end.
-- Assumes nothing.
use Rattle.row_tabs.proofs.Leading.{LeadingTo}
use Rattle.row_tabs.proofs.leading_at.Given as goal

abbrev pub invariant-loop-x : goal.invariant-loop-x
invariant-loop-x l = LeadingTo l.tab l.row l.x-index l.visual
