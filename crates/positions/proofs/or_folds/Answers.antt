use Rattle.lists.proofs.Kit.{eq-eqb, ne_eqb}
use Rattle.positions.specs.Positions.{or_folds}
use Rattle.positions.proofs.or_folds.Goals as goal

pub returns-then-e-ne0 : goal.returns-then-e-ne0
unfolding or_folds
returns-then-e-ne0 c = rw (ne_eqb _ 0 c.if-e-ne0.true)

pub returns : goal.returns
unfolding or_folds
returns c = rw (eq-eqb _ 0 c.if-e-ne0.false) c.fold_refusal.ensures
