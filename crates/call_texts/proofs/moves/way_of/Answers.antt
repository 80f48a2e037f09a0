-- `moves::way_of` meets its contract, number by number. Assumes nothing.
use borrow.Author.Tests.{ne_eqb}
use Rattle.call_texts.specs.Moves.{way_of}
use Rattle.call_texts.proofs.moves.way_of.Goals as goal

-- a number that stands for none
pub returns-in_default : goal.returns-in_default
unfolding way_of
returns-in_default c =
    let other = c.in_default.in_default-own.rest in
    rw (
      ne_eqb _ 0 other.0.0.0.0.0.0.0.0.0.0.0.0.0.0.0.0.0.0.0.0.1,
      ne_eqb _ 1 other.0.0.0.0.0.0.0.0.0.0.0.0.0.0.0.0.0.0.0.1,
      ne_eqb _ 2 other.0.0.0.0.0.0.0.0.0.0.0.0.0.0.0.0.0.0.1,
      ne_eqb _ 3 other.0.0.0.0.0.0.0.0.0.0.0.0.0.0.0.0.0.1,
      ne_eqb _ 4 other.0.0.0.0.0.0.0.0.0.0.0.0.0.0.0.0.1,
      ne_eqb _ 5 other.0.0.0.0.0.0.0.0.0.0.0.0.0.0.0.1,
      ne_eqb _ 6 other.0.0.0.0.0.0.0.0.0.0.0.0.0.0.1,
      ne_eqb _ 7 other.0.0.0.0.0.0.0.0.0.0.0.0.0.1,
      ne_eqb _ 8 other.0.0.0.0.0.0.0.0.0.0.0.0.1,
      ne_eqb _ 9 other.0.0.0.0.0.0.0.0.0.0.0.1,
      ne_eqb _ 10 other.0.0.0.0.0.0.0.0.0.0.1,
      ne_eqb _ 11 other.0.0.0.0.0.0.0.0.0.1,
      ne_eqb _ 12 other.0.0.0.0.0.0.0.0.1,
      ne_eqb _ 13 other.0.0.0.0.0.0.0.1,
      ne_eqb _ 14 other.0.0.0.0.0.0.1,
      ne_eqb _ 15 other.0.0.0.0.0.1,
      ne_eqb _ 16 other.0.0.0.0.1,
      ne_eqb _ 17 other.0.0.0.1,
      ne_eqb _ 18 other.0.0.1,
      ne_eqb _ 19 other.0.1,
      ne_eqb _ 20 other.1,
    )

pub returns-in-0 : goal.returns-in-0
unfolding way_of
returns-in-0 c = rw c.in-0.is

pub returns-in-1 : goal.returns-in-1
unfolding way_of
returns-in-1 c = rw c.in-1.is

pub returns-in-2 : goal.returns-in-2
unfolding way_of
returns-in-2 c = rw c.in-2.is

pub returns-in-3 : goal.returns-in-3
unfolding way_of
returns-in-3 c = rw c.in-3.is

pub returns-in-4 : goal.returns-in-4
unfolding way_of
returns-in-4 c = rw c.in-4.is

pub returns-in-5 : goal.returns-in-5
unfolding way_of
returns-in-5 c = rw c.in-5.is

pub returns-in-6 : goal.returns-in-6
unfolding way_of
returns-in-6 c = rw c.in-6.is

pub returns-in-7 : goal.returns-in-7
unfolding way_of
returns-in-7 c = rw c.in-7.is

pub returns-in-8 : goal.returns-in-8
unfolding way_of
returns-in-8 c = rw c.in-8.is

pub returns-in-9 : goal.returns-in-9
unfolding way_of
returns-in-9 c = rw c.in-9.is

pub returns-in-10 : goal.returns-in-10
unfolding way_of
returns-in-10 c = rw c.in-10.is

pub returns-in-11 : goal.returns-in-11
unfolding way_of
returns-in-11 c = rw c.in-11.is

pub returns-in-12 : goal.returns-in-12
unfolding way_of
returns-in-12 c = rw c.in-12.is

pub returns-in-13 : goal.returns-in-13
unfolding way_of
returns-in-13 c = rw c.in-13.is

pub returns-in-14 : goal.returns-in-14
unfolding way_of
returns-in-14 c = rw c.in-14.is

pub returns-in-15 : goal.returns-in-15
unfolding way_of
returns-in-15 c = rw c.in-15.is

pub returns-in-16 : goal.returns-in-16
unfolding way_of
returns-in-16 c = rw c.in-16.is

pub returns-in-17 : goal.returns-in-17
unfolding way_of
returns-in-17 c = rw c.in-17.is

pub returns-in-18 : goal.returns-in-18
unfolding way_of
returns-in-18 c = rw c.in-18.is

pub returns-in-19 : goal.returns-in-19
unfolding way_of
returns-in-19 c = rw c.in-19.is

pub returns-in-20 : goal.returns-in-20
unfolding way_of
returns-in-20 c = rw c.in-20.is
