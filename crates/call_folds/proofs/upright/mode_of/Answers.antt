-- `upright::mode_of` meets its contract, arm by arm. Assumes nothing.
use borrow.Author.Tests.{ne_eqb}
use Rattle.call_rows.specs.Wraps.{mode_of}
use Rattle.call_folds.proofs.upright.mode_of.Goals as goal

pub returns-in-0 : goal.returns-in-0
unfolding mode_of
returns-in-0 c = rw c.in-0.is

pub returns-in-1 : goal.returns-in-1
unfolding mode_of
returns-in-1 c = rw c.in-1.is

pub returns-in_default : goal.returns-in_default
unfolding mode_of
returns-in_default c = rw (ne_eqb _ 0 c.in_default.in_default-own.rest.0.1, ne_eqb _ 1 c.in_default.in_default-own.rest.1)
