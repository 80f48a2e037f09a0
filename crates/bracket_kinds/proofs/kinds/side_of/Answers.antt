-- `bracket_kinds::kinds::side_of` meets its contract: the eight codes, and what is none of them.
-- Assumes nothing.
use borrow.Author.Tests.{ne_eqb}
use Rattle.bracket_kinds.specs.Kinds.{side_of}
use Rattle.bracket_kinds.proofs.kinds.side_of.Goals as goal

pub returns-in-40 : goal.returns-in-40
unfolding side_of
returns-in-40 c = rw c.in-40.is

pub returns-in-41 : goal.returns-in-41
unfolding side_of
returns-in-41 c = rw c.in-41.is

pub returns-in-91 : goal.returns-in-91
unfolding side_of
returns-in-91 c = rw c.in-91.is

pub returns-in-93 : goal.returns-in-93
unfolding side_of
returns-in-93 c = rw c.in-93.is

pub returns-in-123 : goal.returns-in-123
unfolding side_of
returns-in-123 c = rw c.in-123.is

pub returns-in-125 : goal.returns-in-125
unfolding side_of
returns-in-125 c = rw c.in-125.is

pub returns-in-60 : goal.returns-in-60
unfolding side_of
returns-in-60 c = rw c.in-60.is

pub returns-in-62 : goal.returns-in-62
unfolding side_of
returns-in-62 c = rw c.in-62.is

pub returns-in_default : goal.returns-in_default
unfolding side_of
returns-in_default c =
    let other = c.in_default.in_default-own.rest in
    rw (
      ne_eqb _ _ other.0.0.0.0.0.0.0.1,
      ne_eqb _ _ other.0.0.0.0.0.0.1,
      ne_eqb _ _ other.0.0.0.0.0.1,
      ne_eqb _ _ other.0.0.0.0.1,
      ne_eqb _ _ other.0.0.0.1,
      ne_eqb _ _ other.0.0.1,
      ne_eqb _ _ other.0.1,
      ne_eqb _ _ other.1,
    )
