-- `Caret::walk` meets its contract, move by move. Assumes nothing.
use Rattle.lists.proofs.Kit.{ap}
use Rattle.motions.specs.declared.Sought.TheVariants.{Found}
use Rattle.motions.proofs.Caret.walk.Goals as goal

-- what the checks have shown of the inputs that the move takes
pub by_list-requires : goal.by_list-requires
by_list-requires c =
    record { accepted = c.requires.accepted; folds_good = rw c.in-Word.is at c.requires.takes }

pub to_row-requires : goal.to_row-requires
to_row-requires c =
    record { accepted = c.requires.accepted; takes = rw c.in-Rows.is at c.requires.takes }

pub to_row-requires-in-Screen : goal.to_row-requires-in-Screen
to_row-requires-in-Screen c =
    record { accepted = c.requires.accepted; takes = rw c.in-Screen.is at c.requires.takes }

pub to_row_kept-requires : goal.to_row_kept-requires
to_row_kept-requires c =
    record { accepted = c.requires.accepted; takes = rw c.in-ScreenKept.is at c.requires.takes }

pub returns-in-By : goal.returns-in-By
returns-in-By c = rw c.in-By.is (ap Found c.to_place.ensures)

pub returns-in-Word : goal.returns-in-Word
returns-in-Word c = rw c.in-Word.is c.by_list.ensures

pub returns-in-Rows : goal.returns-in-Rows
returns-in-Rows c = rw c.in-Rows.is (ap Found c.to_row.ensures)

pub returns-in-Screen : goal.returns-in-Screen
returns-in-Screen c = rw c.in-Screen.is (ap Found c.to_row-in-Screen.ensures)

pub returns-in-ScreenKept : goal.returns-in-ScreenKept
returns-in-ScreenKept c = rw c.in-ScreenKept.is (ap Found c.to_row_kept.ensures)

pub returns-in-Viewport : goal.returns-in-Viewport
returns-in-Viewport c = rw c.in-Viewport.is (ap Found c.to_edge.ensures)

pub returns-in-Bracket : goal.returns-in-Bracket
returns-in-Bracket c = rw c.in-Bracket.is c.to_partner.ensures

pub returns-in-Find : goal.returns-in-Find
returns-in-Find c = rw c.in-Find.is c.to_char.ensures
