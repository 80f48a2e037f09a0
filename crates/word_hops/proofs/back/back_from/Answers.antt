-- `word_hops::back::back_from` meets its contract, by where the walk ended. Assumes nothing.
use Rattle.lists.proofs.Kit.{ap, sym, ◌∙◌}
use Rattle.word_hops.specs.Hops.{back_from}
use Rattle.word_hops.proofs.back.back_from.Goals as goal

pub returns-in-Onto : goal.returns-in-Onto
returns-in-Onto c =
    let given = c.args in
    c.back_over_space.ensures ∙ ap (back_from given.c.now given.big) (sym c.in-Onto.is ∙ c.back.ensures)

pub returns-in-Stuck : goal.returns-in-Stuck
returns-in-Stuck c =
    let given = c.args in
    ap (back_from given.c.now given.big) (sym c.in-Stuck.is ∙ c.back.ensures)
