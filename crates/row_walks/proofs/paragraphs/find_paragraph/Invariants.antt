-- `row_walks::paragraphs::find_paragraph` meets its contract. The invariant of its loop: a round from `here` and those still owed lead where all of them do.
-- The measure is the rounds owed. Assumes nothing.
use Rattle.lists.proofs.Kit.{◌-◌}
use Rattle.row_walks.specs.Paragraphs.{paragraphs}
use Rattle.row_walks.proofs.Walks.{Leads}
use Rattle.row_walks.proofs.paragraphs.find_paragraph.Given as goal

abbrev pub invariant-loop-l : goal.invariant-loop-l
invariant-loop-l l = Leads l.t l.forward (paragraphs l.t l.forward (l.n - 1) l.initial.here.row) l.here l.owed

abbrev pub decreases-loop-l : goal.decreases-loop-l
decreases-loop-l l = l.owed
