-- `folds::folds::is_row_hidden` meets its contract: the first fold that hides the row tells whether there is one.
-- Assumes nothing.
use Rattle.lists.proofs.Kit.{sym, ◌∙◌}
use Rattle.folds.proofs.Past.{said}
use Rattle.folds.proofs.folds.is_row_hidden.Goals as goal

pub returns-in-Some : goal.returns-in-Some
returns-in-Some c =
    let by_said = said c.args.folds.now c.args.row _
    (sym c.in-Some.is ∙ c.cover.ensures) in
    sym (by_said.2 c.args.row by_said.0 by_said.1)

pub returns-in-None : goal.returns-in-None
returns-in-None c =
    sym (said c.args.folds.now c.args.row _ (sym c.in-None.is ∙ c.cover.ensures))
