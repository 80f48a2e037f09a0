-- `word_hops::on::over_space` meets its contract, by where the walk ended. Assumes nothing.
use Rattle.lists.proofs.Kit.{ap, sym, ◌∙◌, Some}
use Rattle.word_hops.specs.Hops.{or_end}
use Rattle.word_hops.proofs.on.over_space.Goals as goal

pub returns-in-Onto : goal.returns-in-Onto
returns-in-Onto c =
    ap (or_end c.args.c.now) (sym c.in-Onto.is ∙ c.over.ensures)

pub returns-in-Stuck : goal.returns-in-Stuck
returns-in-Stuck c =
    ap Some c.content_end.ensures ∙ ap (or_end c.args.c.now) (sym c.in-Stuck.is ∙ c.over.ensures)
