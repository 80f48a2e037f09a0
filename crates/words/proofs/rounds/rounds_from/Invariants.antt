-- `words::rounds::rounds_from` meets its contract. The invariant of its loop: the rounds left from `cur` on come to where all of them come, and
-- there is no closed fold at the rows of the stretch. Assumes nothing.
use Rattle.lists.proofs.Kit.{false, ◌-◌}
use Rattle.word_rounds.specs.Rounds.{round_of}
use Rattle.word_kinds.specs.Lent.{kind_by, kinds_by}
use Rattle.words.proofs.Counting.{Counting}
use Rattle.words.proofs.rounds.rounds_from.Given as goal

abbrev pub invariant-loop : goal.invariant-loop
invariant-loop l =
    Counting l.t l.folds (round_of l.t l.folds (kinds_by l.by) l.by.setting.big l.m false) l.count l.initial.cur l.cur (l.count - l.counter) l.w
