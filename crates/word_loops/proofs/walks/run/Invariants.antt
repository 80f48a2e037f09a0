-- `word_loops::walks::run` meets its contract. The invariant of its loop: the walk stands at `cur`, with turns enough for the places ahead.
-- The measure is the text's length less the offset. Assumes nothing.
use Rattle.lists.proofs.Kit.{◌-◌, length}
use Rattle.word_kinds.specs.Places.{step_forward}
use Rattle.word_kinds.specs.Lent.{kind_by, kinds_by}
use Rattle.word_loops.specs.Walks.{goes_on}
use Rattle.word_loops.proofs.Walking.{Walking}
use Rattle.word_loops.proofs.walks.run.Given as goal

abbrev pub invariant-loop-q : goal.invariant-loop-q
invariant-loop-q l = Walking l.t (goes_on l.t (kinds_by l.by) l.kind) (step_forward l.t) l.initial.cur (length l.t - l.cur.at) l.cur

abbrev pub decreases-loop-q : goal.decreases-loop-q
decreases-loop-q l = length l.t - l.cur.at
