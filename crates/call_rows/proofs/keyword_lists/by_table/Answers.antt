-- `lists::by_table` meets its contract: a refusal is handed on, else the table answers. Assumes nothing.
use Rattle.lists.proofs.Kit.{◌∙◌, ap, eq-eqb, ne_eqb}
use Rattle.call_rows.specs.Lists.{by_table, told_matched}
use Rattle.call_rows.proofs.keyword_lists.by_table.Goals as goal

pub returns-then-p-ne0 : goal.returns-then-p-ne0
unfolding by_table
returns-then-p-ne0 c = rw (ne_eqb _ 0 c.if-p-ne0.true)

pub returns : goal.returns
unfolding by_table
returns c = rw (eq-eqb _ 0 c.if-p-ne0.false) (c.told_matched.ensures ∙ ap told_matched c.matches.ensures)
