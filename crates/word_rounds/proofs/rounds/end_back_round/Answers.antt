use Rattle.word_edges.specs.Words.{prev_word_end}
use Rattle.word_rounds.specs.Rounds.{round_of}
use Rattle.word_kinds.specs.Lent.{kind_by, kinds_by}
use Rattle.word_kinds.proofs.Telling.{lands_here}
use Rattle.word_rounds.proofs.Turning.{round_from_lem, set_ready}
use Rattle.word_rounds.proofs.rounds.end_back_round.Goals as goal

pub prev_word_end-end-requires : goal.prev_word_end-end-requires
prev_word_end-end-requires c =
    let required = c.requires in
    set_ready required _ required.folded.spot

pub returns : goal.returns
unfolding round_of
returns c =
    let found = c.prev_word_end-end in
    round_from_lem (lands_here c.requires.folded.spot) (prev_word_end c.args.t.now (kinds_by c.args.by.now))
    found.result c.turned.ensures found.ensures
