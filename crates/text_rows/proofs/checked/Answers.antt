-- `text_rows::checked` meets its contract: where rows are told, only the number of rows with content is left to compare. Assumes nothing.
use Rattle.lists.proofs.Kit.{eq-eqb, ne_eqb}
use Rattle.text_rows.proofs.Told.{told_count, told_found}
use Rattle.text_rows.proofs.checked.Goals as goal

pub content_of-requires : goal.content_of-requires
content_of-requires c = told_count _ _ _ c.rows_by-rows.ensures c.if-rows-eq0.false

pub returns-then-content-content_of : goal.returns-then-content-content_of
returns-then-content-content_of c =
    told_found _ _ _ c.rows_by-rows.ensures c.if-rows-eq0.false _ 16
    (rw (← c.content_of.ensures, ne_eqb _ _ c.if-content-content_of.true))

pub returns : goal.returns
returns c =
    told_found _ _ _ c.rows_by-rows.ensures c.if-rows-eq0.false _ 0
    (rw (← c.content_of.ensures, eq-eqb _ _ c.if-content-content_of.false))

pub returns-then-rows-eq0 : goal.returns-then-rows-eq0
returns-then-rows-eq0 c = c.found_apart.ensures
