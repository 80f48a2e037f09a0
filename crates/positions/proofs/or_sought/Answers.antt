-- `or_sought` meets its contract: 1, then the character sought, then the rest. Assumes nothing.
use Rattle.lists.proofs.Kit.{sym, ◌∙◌, eq-eqb, ne_eqb}
use Rattle.positions.specs.Positions.{or_sought}
use Rattle.positions.proofs.or_sought.Goals as goal

pub returns-then-e-eq1 : goal.returns-then-e-eq1
unfolding or_sought
returns-then-e-eq1 c = rw (eq-eqb _ 1 c.if-e-eq1.true)

-- it is no scalar value
pub returns-then-not-is_scalar : goal.returns-then-not-is_scalar
unfolding or_sought
returns-then-not-is_scalar c = rw (ne_eqb _ 1 c.if-e-eq1.false, sym c.is_scalar.ensures ∙ c.if-not-is_scalar.true)

pub returns : goal.returns
unfolding or_sought
returns c = rw (ne_eqb _ 1 c.if-e-eq1.false, sym c.is_scalar.ensures ∙ c.if-not-is_scalar.false)
