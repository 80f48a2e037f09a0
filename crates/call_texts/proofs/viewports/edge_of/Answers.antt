-- `viewports::edge_of` meets its contract, number by number. Assumes nothing.
use Rattle.lists.proofs.Kit.{ne_eqb}
use Rattle.call_texts.specs.Viewports.{edge_of}
use Rattle.call_texts.proofs.viewports.edge_of.Goals as goal

-- a number that stands for none
pub returns-in_default : goal.returns-in_default
unfolding edge_of
returns-in_default c =
    let other = c.in_default.in_default-own.rest in
    rw (ne_eqb _ 0 other.0.0.1, ne_eqb _ 1 other.0.1, ne_eqb _ 2 other.1)

pub returns-in-0 : goal.returns-in-0
unfolding edge_of
returns-in-0 c = rw c.in-0.is c.to.ensures

pub returns-in-1 : goal.returns-in-1
unfolding edge_of
returns-in-1 c = rw c.in-1.is c.to-in-1.ensures

pub returns-in-2 : goal.returns-in-2
unfolding edge_of
returns-in-2 c = rw c.in-2.is c.to-in-2.ensures
