-- `word_places::walks::run_end` meets its contract. The invariant of its loop: the walk stands at `cur`, with turns enough for the places ahead.
-- The measure is the length of the slice less the place. Assumes nothing.
use Rattle.lists.proofs.Kit.{◌+◌, ◌-◌, length, Some}
use Rattle.word_places.specs.Places.{kind}
use Rattle.word_places.specs.Walks.{runs}
use Rattle.word_places.proofs.Walking.{Walking}
use Rattle.word_places.proofs.walks.run_end.Given as goal

abbrev pub invariant-loop-cur : goal.invariant-loop-cur
invariant-loop-cur l = Walking (runs l.c l.big (kind l.c l.big l.i)) (λ j. Some (j + 1)) (length l.c + 1) l.i (length l.c - l.cur) l.cur

abbrev pub decreases-loop-cur : goal.decreases-loop-cur
decreases-loop-cur l = length l.c - l.cur
