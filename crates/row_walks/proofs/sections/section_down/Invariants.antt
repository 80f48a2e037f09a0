-- `row_walks::sections::section_down` meets its contract. The invariant of its loop: what is left to be found from the walk's row on leads where all of
-- it does. The measure is the rows below. Assumes nothing.
use Rattle.lists.proofs.Kit.{◌-◌}
use Rattle.text.specs.Text.{content_rows}
use Rattle.row_walks.specs.Sections.{section_down}
use Rattle.row_walks.proofs.Marks.{Seeks}
use Rattle.row_walks.proofs.sections.section_down.Given as goal

abbrev pub invariant-loop-row : goal.invariant-loop-row
invariant-loop-row l =
    Seeks l.t (λ k r. section_down l.t l.x k r (l.last - r)) (section_down l.t l.x l.n l.initial.row (content_rows l.t - 1 - l.initial.row)) l.row l.start l.left

abbrev pub decreases-loop-row : goal.decreases-loop-row
decreases-loop-row l = l.last - l.row
