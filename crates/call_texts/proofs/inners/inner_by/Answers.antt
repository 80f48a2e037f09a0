-- `inners::inner_by` meets its contract, arm by arm. Assumes nothing.
use Rattle.lists.proofs.Kit.{ne_eqb}
use Rattle.call_texts.specs.Inners.{inner_by}
use Rattle.call_texts.proofs.inners.inner_by.Goals as goal

pub returns-in-0 : goal.returns-in-0
unfolding inner_by
returns-in-0 c = rw c.in-0.is c.inner_pair.ensures

pub returns-in-1 : goal.returns-in-1
unfolding inner_by
returns-in-1 c = rw c.in-1.is c.inner_pair-in-1.ensures

pub returns-in-2 : goal.returns-in-2
unfolding inner_by
returns-in-2 c = rw c.in-2.is c.inner_pair-in-2.ensures

pub returns-in-3 : goal.returns-in-3
unfolding inner_by
returns-in-3 c = rw c.in-3.is c.inner_pair-in-3.ensures

pub returns-in_default : goal.returns-in_default
unfolding inner_by
returns-in_default c =
    let other = c.in_default.in_default-own.rest in
    rw (ne_eqb _ 0 other.0.0.0.1, ne_eqb _ 1 other.0.0.1, ne_eqb _ 2 other.0.1, ne_eqb _ 3 other.1)
