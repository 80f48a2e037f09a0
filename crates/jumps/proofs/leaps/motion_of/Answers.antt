use borrow.Author.Tests.{eq-eqb, ne_eqb}
use Rattle.jumps.specs.Leaps.{motion_of}
use Rattle.jumps.proofs.leaps.motion_of.Goals as goal

pub returns-then-kind-eq0 : goal.returns-then-kind-eq0
unfolding motion_of
returns-then-kind-eq0 c = rw (eq-eqb _ 0 c.if-kind-eq0.true)

pub returns-then-kind-eq1 : goal.returns-then-kind-eq1
unfolding motion_of
returns-then-kind-eq1 c = rw (ne_eqb _ 0 c.if-kind-eq0.false, eq-eqb _ 1 c.if-kind-eq1.true)

pub returns : goal.returns
unfolding motion_of
returns c = rw (ne_eqb _ 0 c.if-kind-eq0.false, ne_eqb _ 1 c.if-kind-eq1.false)
