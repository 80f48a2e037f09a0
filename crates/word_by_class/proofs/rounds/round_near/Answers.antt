-- `word_by_class::rounds::round_near` meets its contract: in the stretch a round without folds is the same. Assumes nothing.
use Rattle.lists.proofs.Kit.{◌∙◌, false}
use Rattle.word_by_class.proofs.Bare.{round_bare, ready_bare}
use Rattle.word_by_class.proofs.rounds.round_near.Goals as goal

pub round-requires : goal.round-requires
round-requires c = ready_bare c.requires.ready

pub returns-then-w-p : goal.returns-then-w-p
returns-then-w-p c =
    let given = c.args in
    let required = c.requires in
    c.round.ensures ∙
    round_bare given.c.now given.folds.now required.bare given.p.at given.p.row required.ready.stands.row_is c.if-w-p.true
    given.big given.m false
