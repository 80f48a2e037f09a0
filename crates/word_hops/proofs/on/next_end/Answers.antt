use Rattle.lists.proofs.Kit.{sym, ◌∙◌}
use Rattle.word_hops.specs.Hops.{next_end}
use Rattle.word_hops.proofs.on.next_end.Goals as goal

pub returns-in-Some : goal.returns-in-Some
unfolding next_end
returns-in-Some c = rw (sym c.forward.ensures ∙ c.in-Some.is) c.end_from.ensures

pub returns-in-None : goal.returns-in-None
unfolding next_end
returns-in-None c = rw (sym c.forward.ensures ∙ c.in-None.is)
