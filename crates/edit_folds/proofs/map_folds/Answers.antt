-- `edit_folds::map_folds` meets its contract: what `keep_folds` leaves, with zeros put behind it. Assumes nothing.
use borrow.Author.Rules.{rules}
use Rattle.edit_folds.proofs.Mapped.{folds_mapped}
use Rattle.edit_folds.proofs.map_folds.Goals as goal

pub returns : goal.returns
returns c = search (rules, folds_mapped)
