-- `entry::enter_by` meets its contract, arm by arm. Assumes nothing.
use Rattle.lists.proofs.Kit.{ne_eqb}
use Rattle.call_signs.specs.Entry.{entering}
use Rattle.call_signs.proofs.entry.enter_by.Goals as goal

pub returns-in-0 : goal.returns-in-0
unfolding entering
returns-in-0 c = rw c.in-0.is c.entered_count.ensures

pub returns-in-1 : goal.returns-in-1
unfolding entering
returns-in-1 c = rw c.in-1.is c.entered_matches.ensures

pub returns-in_default : goal.returns-in_default
unfolding entering
returns-in_default c = rw (ne_eqb _ 0 c.in_default.in_default-own.rest.0.1, ne_eqb _ 1 c.in_default.in_default-own.rest.1)
