-- `word_by_class::rounds::rounds` meets its contract. The invariant of its loop: the rounds left from `cur` on come to where all of
-- them come, and there is no closed fold at the rows of the stretch. Assumes nothing.
use Rattle.lists.proofs.Kit.{false, ◌-◌}
use Rattle.word_by_class.specs.Rounds.{round_of}
use Rattle.word_by_class.proofs.Counting.{Counting}
use Rattle.word_by_class.proofs.rounds.rounds.Given as goal

abbrev pub invariant-loop : goal.invariant-loop
invariant-loop l = Counting l.c l.folds l.rows l.content (round_of l.c l.folds l.big l.m false) l.count l.initial.cur l.cur (l.count - l.counter) l.w
