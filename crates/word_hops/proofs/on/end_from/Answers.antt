-- `word_hops::on::end_from` meets its contract, by where the walk ended. Assumes nothing.
use Rattle.lists.proofs.Kit.{ap, sym, ◌∙◌, Some}
use Rattle.word_hops.specs.Hops.{end_from}
use Rattle.word_hops.proofs.on.end_from.Goals as goal

pub returns-in-Onto : goal.returns-in-Onto
returns-in-Onto c =
    let given = c.args in
    ap Some c.run_end.ensures ∙ ap (end_from given.c.now given.big) (sym c.in-Onto.is ∙ c.over.ensures)

pub returns-in-Stuck : goal.returns-in-Stuck
returns-in-Stuck c =
    let given = c.args in
    ap (end_from given.c.now given.big) (sym c.in-Stuck.is ∙ c.over.ensures)
