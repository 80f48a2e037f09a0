-- `row_search::find::start_back` meets its contract.
-- Assumes nothing.
use Rattle.lists.proofs.Kit.{eq-eqb, ne_eqb, lt-ltb, le-ltb}
use Rattle.row_search.proofs.find.start_back.Goals as goal

pub returns-then-row-b : goal.returns-then-row-b
returns-then-row-b c = rw (c.if-again.true, lt-ltb _ _ c.if-col-gt0.true, eq-eqb _ _ c.if-row-b.true)

pub returns-else-row-b : goal.returns-else-row-b
returns-else-row-b c = rw (c.if-again.true, lt-ltb _ _ c.if-col-gt0.true, ne_eqb _ _ c.if-row-b.false)

pub returns-else-col-gt0 : goal.returns-else-col-gt0
returns-else-col-gt0 c = rw (c.if-again.true, le-ltb _ _ c.if-col-gt0.false)

pub returns-else-again : goal.returns-else-again
returns-else-again c = rw c.if-again.false
