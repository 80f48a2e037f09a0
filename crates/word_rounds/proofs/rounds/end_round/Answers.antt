-- `word_rounds::rounds::end_round` meets its contract: held at the end of a word, or on to the next end. Assumes nothing.
use Rattle.lists.proofs.Kit.{sym, ◌∙◌}
use Rattle.word_rounds.specs.Rounds.{round_of}
use Rattle.word_kinds.specs.Lent.{kind_by, kinds_by}
use Rattle.word_rounds.proofs.Turning.{end_held, end_moved, set_ready}
use Rattle.word_rounds.proofs.rounds.end_round.Goals as goal

pub at_word_end-requires : goal.at_word_end-requires
at_word_end-requires c =
    set_ready c.requires _ c.fold_jump_fwd-from.ensures.inside

pub returns-then-at_word_end : goal.returns-then-at_word_end
unfolding round_of
returns-then-at_word_end c =
    end_held c.fold_jump_fwd-from.ensures (kinds_by c.args.by.now) c.args.stop
    c.if-stop.true (sym c.at_word_end.ensures ∙ c.if-at_word_end.true)

pub next_word_end-other-requires : goal.next_word_end-other-requires
next_word_end-other-requires c =
    set_ready c.requires _ c.fold_jump_fwd-from.ensures.inside

pub returns-then-stop : goal.returns-then-stop
unfolding round_of
returns-then-stop c =
    let found = c.next_word_end-other in
    end_moved c.fold_jump_fwd-from.ensures (kinds_by c.args.by.now) c.args.stop found.result
    (rw c.if-stop.true (sym c.at_word_end.ensures ∙ c.if-at_word_end.false)) c.turned.ensures found.ensures

pub next_word_end-end-requires : goal.next_word_end-end-requires
next_word_end-end-requires c =
    set_ready c.requires _ c.fold_jump_fwd-from.ensures.inside

pub returns : goal.returns
unfolding round_of
returns c =
    let found = c.next_word_end-end in
    end_moved c.fold_jump_fwd-from.ensures (kinds_by c.args.by.now) c.args.stop found.result
    (rw c.if-stop.false) c.turned-2.ensures found.ensures
