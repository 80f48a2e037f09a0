-- `word_by_class::rounds::end_round` meets its contract, held or not. Assumes nothing.
use Rattle.lists.proofs.Kit.{sym, ◌∙◌}
use Rattle.word_by_class.proofs.rounds.end_round.Goals as goal

pub returns-then-at_end : goal.returns-then-at_end
returns-then-at_end c = rw (c.if-stop.true, sym c.at_end.ensures ∙ c.if-at_end.true)

pub returns-then-stop : goal.returns-then-stop
returns-then-stop c =
    rw (c.if-stop.true, sym c.at_end.ensures ∙ c.if-at_end.false, ← c.next_end.ensures) c.turned.ensures

pub returns : goal.returns
returns c = rw (c.if-stop.false, ← c.next_end-2.ensures) c.turned-2.ensures
