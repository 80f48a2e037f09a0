use Rattle.word_edges.specs.Words.{next_word_start}
use Rattle.word_rounds.specs.Rounds.{round_of}
use Rattle.word_kinds.specs.Lent.{kind_by, kinds_by}
use Rattle.word_rounds.proofs.Turning.{round_from_lem, set_ready}
use Rattle.word_rounds.proofs.rounds.fwd_round.Goals as goal

pub next_word_start-next-requires : goal.next_word_start-next-requires
next_word_start-next-requires c = set_ready c.requires _ c.fold_jump_fwd-from.ensures.inside

pub returns : goal.returns
unfolding round_of
returns c =
    let found = c.next_word_start-next in
    round_from_lem c.fold_jump_fwd-from.ensures
    (next_word_start c.args.t.now (kinds_by c.args.by.now) c.args.by.now.setting.big)
    found.result c.turned.ensures found.ensures
