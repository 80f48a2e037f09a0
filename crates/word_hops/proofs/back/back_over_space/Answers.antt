-- `word_hops::back::back_over_space` meets its contract, by where the walk ended. Assumes nothing.
use Rattle.lists.proofs.Kit.{ap, sym, ◌∙◌}
use Rattle.word_hops.specs.Hops.{landed}
use Rattle.word_hops.proofs.back.back_over_space.Goals as goal

pub returns-in-Onto : goal.returns-in-Onto
returns-in-Onto c = ap landed (sym c.in-Onto.is ∙ c.back.ensures)

pub returns-in-Stuck : goal.returns-in-Stuck
returns-in-Stuck c = ap landed (sym c.in-Stuck.is ∙ c.back.ensures)
