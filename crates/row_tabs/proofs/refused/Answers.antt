-- `row_tabs::refused` meets its contract: the numbers in the order of document 01. Assumes nothing.
use Rattle.lists.proofs.Kit.{eq-eqb, ne_eqb, lt-ltb, le-ltb}
use Rattle.row_tabs.specs.Cells.{column_refusal}
use Rattle.row_tabs.proofs.refused.Goals as goal

pub returns-then-f-ne0 : goal.returns-then-f-ne0
unfolding column_refusal
returns-then-f-ne0 c = rw (← c.row_refusal-f.ensures, ne_eqb _ _ c.if-f-ne0.true)

pub returns-then-tabstop-gt1000 : goal.returns-then-tabstop-gt1000
unfolding column_refusal
returns-then-tabstop-gt1000 c = rw (← c.row_refusal-f.ensures, eq-eqb _ _ c.if-f-ne0.false, lt-ltb _ _ c.if-tabstop-gt1000.true)

pub returns : goal.returns
unfolding column_refusal
returns c = rw (← c.row_refusal-f.ensures, eq-eqb _ _ c.if-f-ne0.false, le-ltb _ _ c.if-tabstop-gt1000.false)
