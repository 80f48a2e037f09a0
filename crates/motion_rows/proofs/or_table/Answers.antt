-- `or_table` meets its contract, answer by answer. Assumes nothing.
use Rattle.lists.proofs.Kit.{eq-eqb, ne_eqb}
use Rattle.motion_rows.specs.Going.{or_table}
use Rattle.motion_rows.proofs.or_table.Goals as goal

pub returns-then-g-eq0 : goal.returns-then-g-eq0
unfolding or_table
returns-then-g-eq0 c = rw (c.in-Found.is, eq-eqb _ 0 c.if-g-eq0.true)

pub returns-then-g-eq0-2 : goal.returns-then-g-eq0-2
unfolding or_table
returns-then-g-eq0-2 c = rw (c.in-Missing.is, eq-eqb _ 0 c.if-g-eq0-2.true)

pub returns-in-Refused : goal.returns-in-Refused
unfolding or_table
returns-in-Refused c = rw c.in-Refused.is

pub returns-else-g-eq0 : goal.returns-else-g-eq0
unfolding or_table
returns-else-g-eq0 c = rw (c.in-Found.is, ne_eqb _ 0 c.if-g-eq0.false)

pub returns-else-g-eq0-2 : goal.returns-else-g-eq0-2
unfolding or_table
returns-else-g-eq0-2 c = rw (c.in-Missing.is, ne_eqb _ 0 c.if-g-eq0-2.false)
