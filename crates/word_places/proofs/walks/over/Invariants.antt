-- `word_places::walks::over` meets its contract. The invariant of its loop: the walk stands at `cur`, with turns enough for the places ahead.
-- The measure is the length of the slice less the place. Assumes nothing.
use Rattle.lists.proofs.Kit.{◌||◌, ◌+◌, ◌-◌, length, eqb}
use Rattle.word_places.specs.Places.{kind, forward}
use Rattle.word_places.proofs.Walking.{Walking}
use Rattle.word_places.proofs.walks.over.Given as goal

abbrev pub invariant-loop-big : goal.invariant-loop-big
invariant-loop-big l = Walking (λ j. eqb (kind l.c l.big j) l.a || eqb (kind l.c l.big j) l.b) (forward l.c) (length l.c + 1) l.i (length l.c - l.cur) l.cur

abbrev pub decreases-loop-big : goal.decreases-loop-big
decreases-loop-big l = length l.c - l.cur
