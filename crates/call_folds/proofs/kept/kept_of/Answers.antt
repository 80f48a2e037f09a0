-- `kept::kept_of` meets its contract, number by number. Assumes nothing.
use Rattle.lists.proofs.Kit.{ne_eqb}
use Rattle.call_folds.specs.Kept.{kept_of}
use Rattle.call_folds.proofs.kept.kept_of.Goals as goal

-- a number that stands for none
pub returns-in_default : goal.returns-in_default
unfolding kept_of
returns-in_default c = rw (ne_eqb _ 0 c.in_default.in_default-own.rest.0.1, ne_eqb _ 1 c.in_default.in_default-own.rest.1)

pub returns-in-0 : goal.returns-in-0
unfolding kept_of
returns-in-0 c = rw c.in-0.is c.asked.ensures

pub returns-in-1 : goal.returns-in-1
unfolding kept_of
returns-in-1 c = rw c.in-1.is c.asked-in-1.ensures
