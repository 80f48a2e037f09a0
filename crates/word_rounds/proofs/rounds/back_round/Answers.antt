use Rattle.word_edges.specs.Words.{prev_word_start}
use Rattle.word_rounds.specs.Rounds.{round_of}
use Rattle.word_kinds.specs.Lent.{kind_by, kinds_by}
use Rattle.word_rounds.proofs.Turning.{round_from_lem, set_ready}
use Rattle.word_rounds.proofs.rounds.back_round.Goals as goal

pub prev_word_start-prev-requires : goal.prev_word_start-prev-requires
prev_word_start-prev-requires c = set_ready c.requires _ c.fold_jump_back-from.ensures.inside

pub returns : goal.returns
unfolding round_of
returns c =
    let found = c.prev_word_start-prev in
    round_from_lem c.fold_jump_back-from.ensures (prev_word_start c.args.t.now (kinds_by c.args.by.now))
    found.result c.turned.ensures found.ensures
