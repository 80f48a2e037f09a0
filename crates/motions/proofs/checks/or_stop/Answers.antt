use borrow.Author.Tests.{eq-eqb, ne_eqb, lt-ltb, le-ltb}
use Rattle.motions.specs.Checks.{or_stop}
use Rattle.motions.proofs.checks.or_stop.Goals as goal

pub returns-then-f-ne0 : goal.returns-then-f-ne0
unfolding or_stop
returns-then-f-ne0 c = rw (ne_eqb _ 0 c.if-f-ne0.true)

pub returns-then-tabstop-gt1000 : goal.returns-then-tabstop-gt1000
unfolding or_stop
returns-then-tabstop-gt1000 c = rw (eq-eqb _ 0 c.if-f-ne0.false, lt-ltb _ _ c.if-tabstop-gt1000.true)

pub returns : goal.returns
unfolding or_stop
returns c = rw (eq-eqb _ 0 c.if-f-ne0.false, le-ltb _ _ c.if-tabstop-gt1000.false)
