-- `into` meets its contract, by the operation. Assumes nothing.
use Rattle.lists.proofs.Kit.{eq-eqb, ne_eqb}
use Rattle.replay_classes.specs.Classes.{answered}
use Rattle.replay_classes.proofs.into.Goals as goal

pub returns-then-k-eq5 : goal.returns-then-k-eq5
unfolding answered
returns-then-k-eq5 c = rw (eq-eqb _ 5 c.if-k-eq5.true) c.classes_into.ensures

pub returns : goal.returns
unfolding answered
returns c = rw (ne_eqb _ 5 c.if-k-eq5.false) c.classed_into.ensures
