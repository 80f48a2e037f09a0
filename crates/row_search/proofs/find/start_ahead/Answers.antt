-- `row_search::find::start_ahead` meets its contract.
-- Assumes nothing.
use Rattle.lists.proofs.Kit.{eq-eqb, ne_eqb, lt-ltb, le-ltb}
use Rattle.row_search.proofs.find.start_ahead.Goals as goal

pub returns-then-row-from : goal.returns-then-row-from
returns-then-row-from c = rw (c.if-again.true, lt-ltb _ _ c.if-from-row.true, eq-eqb _ _ c.if-row-from.true)

pub returns-else-row-from : goal.returns-else-row-from
returns-else-row-from c = rw (c.if-again.true, lt-ltb _ _ c.if-from-row.true, ne_eqb _ _ c.if-row-from.false)

pub returns-else-from-row : goal.returns-else-from-row
returns-else-from-row c = rw (c.if-again.true, le-ltb _ _ c.if-from-row.false)

pub returns-else-again : goal.returns-else-again
returns-else-again c = rw c.if-again.false
