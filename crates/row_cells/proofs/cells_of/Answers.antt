use Rattle.lists.proofs.Kit.{sym, max-eq_right, arith}
use Rattle.chars.proofs.Facts.{width_most}
use Rattle.row_cells.proofs.cells_of.Goals as goal

pub returns-then-width-eq0 : goal.returns-then-width-eq0
returns-then-width-eq0 c = record { cells = rw (← c.width_in-width.ensures, c.if-width-eq0.true); small = omega arith }

pub returns : goal.returns
returns c =
    let is = c.width_in-width.ensures in
    let given = c.args in
    let most = width_most given.by.zeros.now given.by.doubles.now given.x in
    record { cells = rw (← is) (sym (max-eq_right (omega arith))); small = omega arith }
