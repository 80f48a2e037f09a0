-- `Reader::step` meets its contract: the tests of the definition in their order. Assumes nothing.
use Rattle.lists.proofs.Kit.{eq-eqb, ne_eqb, le-leb, lt-leb}
use Rattle.replay_rows.specs.Rows.{step}
use Rattle.replay_rows.proofs.Reader.step.Goals as goal

pub returns-then-x-eq42 : goal.returns-then-x-eq42
unfolding step
returns-then-x-eq42 c = rw (eq-eqb _ 42 c.if-x-eq42.true) c.star.ensures

pub returns-then-x-lt48 : goal.returns-then-x-lt48
unfolding step
returns-then-x-lt48 c = rw (ne_eqb _ 42 c.if-x-eq42.false, lt-leb 48 _ c.if-x-lt48.true) c.spoilt.ensures

pub returns-then-x-gt57 : goal.returns-then-x-gt57
unfolding step
returns-then-x-gt57 c =
    rw (ne_eqb _ 42 c.if-x-eq42.false, le-leb 48 _ c.if-x-lt48.false, lt-leb _ 57 c.if-x-gt57.true) c.spoilt-then-x-gt57.ensures

pub returns : goal.returns
unfolding step
returns c =
    rw (ne_eqb _ 42 c.if-x-eq42.false, le-leb 48 _ c.if-x-lt48.false, le-leb _ 57 c.if-x-gt57.false) c.digit.ensures
