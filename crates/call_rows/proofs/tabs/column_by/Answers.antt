-- `tabs::column_by` meets its contract, arm by arm. Assumes nothing.
use Rattle.lists.proofs.Kit.{◌∙◌, ap, ne_eqb}
use Rattle.call_rows.specs.Tabs.{told_column, tab_column_under}
use Rattle.call_rows.proofs.tabs.column_by.Goals as goal

pub returns-in-0 : goal.returns-in-0
unfolding tab_column_under
returns-in-0 c = rw c.in-0.is (c.told_column.ensures ∙ ap told_column c.visual_col_to_char_col.ensures)

pub returns-in-1 : goal.returns-in-1
unfolding tab_column_under
returns-in-1 c = rw c.in-1.is (c.told_column-in-1.ensures ∙ ap told_column c.char_col_to_visual_col.ensures)

pub returns-in-2 : goal.returns-in-2
unfolding tab_column_under
returns-in-2 c = rw c.in-2.is (c.told_column-in-2.ensures ∙ ap told_column c.cursor_visual_col.ensures)

pub returns-in-3 : goal.returns-in-3
unfolding tab_column_under
returns-in-3 c = rw c.in-3.is (c.told_column-in-3.ensures ∙ ap told_column c.leading_visual_width.ensures)

pub returns-in_default : goal.returns-in_default
unfolding tab_column_under
returns-in_default c =
    let other = c.in_default.in_default-own.rest in
    rw (ne_eqb _ 0 other.0.0.0.1, ne_eqb _ 1 other.0.0.1, ne_eqb _ 2 other.0.1, ne_eqb _ 3 other.1)
