-- `word_loops::walks::leave` meets its contract. The invariant of its loop: the walk stands at `cur`, with turns enough for the places ahead.
-- The measure is the text's length less the offset. Assumes nothing.
use Rattle.lists.proofs.Kit.{◌-◌, length}
use Rattle.word_kinds.specs.Places.{step_forward}
use Rattle.word_kinds.specs.Lent.{kind_by, kinds_by}
use Rattle.word_loops.specs.Walks.{in_row}
use Rattle.word_loops.proofs.Walking.{Walking}
use Rattle.word_loops.proofs.walks.leave.Given as goal

abbrev pub invariant-loop-cur : goal.invariant-loop-cur
invariant-loop-cur l = Walking l.t (in_row l.t (kinds_by l.by) l.kind l.initial.cur.row) (step_forward l.t) l.initial.cur (length l.t - l.cur.at) l.cur

abbrev pub decreases-loop-cur : goal.decreases-loop-cur
decreases-loop-cur l = length l.t - l.cur.at
