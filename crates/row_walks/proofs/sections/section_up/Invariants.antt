-- `row_walks::sections::section_up` meets its contract. The invariant of its loop: what is left to be found from the walk's row on leads where all of it does.
-- The measure is the row. Assumes nothing.
use Rattle.row_walks.specs.Sections.{section_up}
use Rattle.row_walks.proofs.Marks.{Seeks}
use Rattle.row_walks.proofs.sections.section_up.Given as goal

abbrev pub invariant-loop-row : goal.invariant-loop-row
invariant-loop-row l = Seeks l.t (λ k r. section_up l.t l.x k r) (section_up l.t l.x l.n l.initial.row) l.row l.start l.left

abbrev pub decreases-loop-row : goal.decreases-loop-row
decreases-loop-row l = l.row
