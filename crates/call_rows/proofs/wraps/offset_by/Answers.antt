-- `wraps::offset_by` meets its contract, arm by arm. Assumes nothing.
use Rattle.lists.proofs.Kit.{◌∙◌, ap, ne_eqb}
use Rattle.call_rows.specs.Tabs.{told_column}
use Rattle.call_rows.specs.Wraps.{offset_under}
use Rattle.call_rows.proofs.wraps.offset_by.Goals as goal

pub returns-in-0 : goal.returns-in-0
unfolding offset_under
returns-in-0 c = rw c.in-0.is (c.told_column.ensures ∙ ap told_column c.char_col_for_visual_offset.ensures)

pub returns-in-1 : goal.returns-in-1
unfolding offset_under
returns-in-1 c = rw c.in-1.is (c.told_column-in-1.ensures ∙ ap told_column c.visual_offset_for_char_col.ensures)

pub returns-in_default : goal.returns-in_default
unfolding offset_under
returns-in_default c = rw (ne_eqb _ 0 c.in_default.in_default-own.rest.0.1, ne_eqb _ 1 c.in_default.in_default-own.rest.1)
