-- `seeks::seek_of` meets its contract, number by number. Assumes nothing.
use Rattle.lists.proofs.Kit.{ne_eqb}
use Rattle.call_texts.specs.Seeks.{seek_of}
use Rattle.call_texts.proofs.seeks.seek_of.Goals as goal

-- a number that stands for none
pub returns-in_default : goal.returns-in_default
unfolding seek_of
returns-in_default c =
    let other = c.in_default.in_default-own.rest in
    rw (
      ne_eqb _ 0 other.0.0.0.0.0.0.0.0.1,
      ne_eqb _ 1 other.0.0.0.0.0.0.0.1,
      ne_eqb _ 2 other.0.0.0.0.0.0.1,
      ne_eqb _ 3 other.0.0.0.0.0.1,
      ne_eqb _ 4 other.0.0.0.0.1,
      ne_eqb _ 5 other.0.0.0.1,
      ne_eqb _ 6 other.0.0.1,
      ne_eqb _ 7 other.0.1,
      ne_eqb _ 8 other.1,
    )

pub returns-in-0 : goal.returns-in-0
unfolding seek_of
returns-in-0 c = rw c.in-0.is

pub returns-in-1 : goal.returns-in-1
unfolding seek_of
returns-in-1 c = rw c.in-1.is c.find.ensures

pub returns-in-2 : goal.returns-in-2
unfolding seek_of
returns-in-2 c = rw c.in-2.is c.find-in-2.ensures

pub returns-in-3 : goal.returns-in-3
unfolding seek_of
returns-in-3 c = rw c.in-3.is c.find-in-3.ensures

pub returns-in-4 : goal.returns-in-4
unfolding seek_of
returns-in-4 c = rw c.in-4.is c.find-in-4.ensures

pub returns-in-5 : goal.returns-in-5
unfolding seek_of
returns-in-5 c = rw c.in-5.is c.find-in-5.ensures

pub returns-in-6 : goal.returns-in-6
unfolding seek_of
returns-in-6 c = rw c.in-6.is c.find-in-6.ensures

pub returns-in-7 : goal.returns-in-7
unfolding seek_of
returns-in-7 c = rw c.in-7.is c.find-in-7.ensures

pub returns-in-8 : goal.returns-in-8
unfolding seek_of
returns-in-8 c = rw c.in-8.is c.find-in-8.ensures
