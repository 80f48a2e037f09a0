-- `row_columns::cursor_at` meets its contract: past the row's end stands no tab, and a tab has a last cell. Assumes nothing.
use Rattle.lists.proofs.Kit.{arith}
use Rattle.chars.specs.Width.{width_with}
use Rattle.row_columns.proofs.Cursor.{cursor_past, cursor_tab, cursor_other, tab_ends}
use Rattle.row_columns.proofs.cursor_at.Goals as goal

pub returns-then-col-row : goal.returns-then-col-row
returns-then-col-row c =
    let given = c.args in
    cursor_past (width_with given.by) _ _ _ c.if-col-row.true c.visual_at.ensures

pub overflow_sub-result : goal.overflow_sub-result
overflow_sub-result c =
    let given = c.args in
    let ends = tab_ends (width_with given.by) given.tab given.row.now given.col c.if-col-row.false
    c.requires.tables.stop.some c.if-row-col-eq9.true in
    omega (arith, c.visual_at-then-row-col-eq9.ensures, ends)

pub returns-then-row-col-eq9 : goal.returns-then-row-col-eq9
returns-then-row-col-eq9 c =
    let given = c.args in
    cursor_tab (width_with given.by) _ _ _ c.if-row-col-eq9.true c.visual_at-then-row-col-eq9.ensures

pub returns : goal.returns
returns c =
    let given = c.args in
    cursor_other (width_with given.by) _ _ _ c.if-row-col-eq9.false c.visual_at-2.ensures
