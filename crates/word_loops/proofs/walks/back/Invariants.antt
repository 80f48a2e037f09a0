-- `word_loops::walks::back` meets its contract. The invariant of its loop: the walk stands at `cur`, with turns enough for the places before it.
-- The measure is the offset. Assumes nothing.
use Rattle.word_kinds.specs.Places.{dec}
use Rattle.word_kinds.specs.Lent.{kind_by, kinds_by}
use Rattle.word_loops.specs.Walks.{of_class}
use Rattle.word_loops.proofs.Walking.{Walking}
use Rattle.word_loops.proofs.walks.back.Given as goal

abbrev pub invariant-loop-cur : goal.invariant-loop-cur
invariant-loop-cur l = Walking l.t (of_class l.t (kinds_by l.by) l.class) (dec l.t) l.initial.cur l.cur.at l.cur

abbrev pub decreases-loop-cur : goal.decreases-loop-cur
decreases-loop-cur l = l.cur.at
