use Rattle.lists.proofs.Kit.{sym, ◌∙◌}
use Rattle.replay_verdicts.specs.Answers.{compared}
use Rattle.replay_classes.proofs.compared_bytes.Goals as goal

pub returns-then-same_bytes : goal.returns-then-same_bytes
unfolding compared
returns-then-same_bytes c = rw (sym c.same_bytes.ensures ∙ c.if-same_bytes.true)

pub returns : goal.returns
unfolding compared
returns c = rw (sym c.same_bytes.ensures ∙ c.if-same_bytes.false)
