-- `upright::upright_of` meets its contract, number by number. Assumes nothing.
use Rattle.lists.proofs.Kit.{ne_eqb}
use Rattle.call_folds.specs.Upright.{upright_of}
use Rattle.call_folds.proofs.upright.upright_of.Goals as goal

-- a number that stands for none
pub returns-in_default : goal.returns-in_default
unfolding upright_of
returns-in_default c =
    let other = c.in_default.in_default-own.rest in
    rw (ne_eqb _ 0 other.0.0.0.1, ne_eqb _ 1 other.0.0.1, ne_eqb _ 2 other.0.1, ne_eqb _ 3 other.1)

pub returns-in-0 : goal.returns-in-0
unfolding upright_of
returns-in-0 c = rw c.in-0.is c.rows.ensures

pub returns-in-1 : goal.returns-in-1
unfolding upright_of
returns-in-1 c = rw c.in-1.is c.rows-in-1.ensures

pub returns-in-2 : goal.returns-in-2
unfolding upright_of
returns-in-2 c = rw c.in-2.is c.screen.ensures

pub returns-in-3 : goal.returns-in-3
unfolding upright_of
returns-in-3 c = rw c.in-3.is c.screen-in-3.ensures
