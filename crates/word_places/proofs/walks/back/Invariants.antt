-- `word_places::walks::back` meets its contract. The invariant of its loop: the walk stands at `cur`, with turns enough for the places behind.
-- The measure is the place. Assumes nothing.
use Rattle.lists.proofs.Kit.{◌&&◌, not, ◌+◌, eqb}
use Rattle.word_places.specs.Places.{is_empty, soft, backward}
use Rattle.word_places.proofs.Walking.{Walking}
use Rattle.word_places.proofs.walks.back.Given as goal

abbrev pub invariant-loop-big : goal.invariant-loop-big
invariant-loop-big l = Walking (λ j. eqb (soft l.c l.big j) l.k && not (is_empty l.c j)) backward (l.i + 1) l.i l.cur l.cur

abbrev pub decreases-loop-big : goal.decreases-loop-big
decreases-loop-big l = l.cur
