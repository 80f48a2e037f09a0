-- `terms::word_of` meets its contract, number by number. Assumes nothing.
use Rattle.lists.proofs.Kit.{ne_eqb}
use Rattle.call_folds.specs.Terms.{word_of}
use Rattle.call_folds.proofs.terms.word_of.Goals as goal

-- a number that stands for none
pub returns-in_default : goal.returns-in_default
unfolding word_of
returns-in_default c =
    let other = c.in_default.in_default-own.rest in
    rw (
      ne_eqb _ 0 other.0.0.0.0.1,
      ne_eqb _ 1 other.0.0.0.1,
      ne_eqb _ 2 other.0.0.1,
      ne_eqb _ 3 other.0.1,
      ne_eqb _ 4 other.1,
    )

pub returns-in-0 : goal.returns-in-0
unfolding word_of
returns-in-0 c = rw c.in-0.is c.by.ensures

pub returns-in-1 : goal.returns-in-1
unfolding word_of
returns-in-1 c = rw c.in-1.is c.by-in-1.ensures

pub returns-in-2 : goal.returns-in-2
unfolding word_of
returns-in-2 c = rw c.in-2.is c.by-in-2.ensures

pub returns-in-3 : goal.returns-in-3
unfolding word_of
returns-in-3 c = rw c.in-3.is c.by-in-3.ensures

pub returns-in-4 : goal.returns-in-4
unfolding word_of
returns-in-4 c = rw c.in-4.is c.by-in-4.ensures
