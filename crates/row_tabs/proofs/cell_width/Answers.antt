use Rattle.lists.proofs.Kit.{sym, ◌∙◌, arith}
use Rattle.chars.specs.Width.{width_with}
use Rattle.chars.proofs.Facts.{width_most}
use Rattle.row_tabs.proofs.Accepted.{cells_tab, cells_other}
use Rattle.row_tabs.proofs.cell_width.Goals as goal

pub returns-then-x-eq9 : goal.returns-then-x-eq9
returns-then-x-eq9 c =
    let given = c.args in
    let width = width_with given.by in
    record { cells = c.tab_width.ensures.cells ∙ sym (cells_tab width _ _ _ c.if-x-eq9.true); small = c.tab_width.ensures.small }

pub returns : goal.returns
returns c =
    let given = c.args in
    let width = width_with given.by in
    let is = c.width_in.ensures in
    let most = width_most given.by.zeros.now given.by.doubles.now given.x in
    record { cells = is ∙ sym (cells_other width _ _ _ c.if-x-eq9.false); small = rw is (omega (arith, most)) }
