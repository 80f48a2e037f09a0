-- `word_places::places::kind` meets its contract: the tests stand in the definition's order. Assumes nothing.
use Rattle.lists.proofs.Kit.{eq-eqb, ne_eqb}
use Rattle.word_places.specs.Places.{kind_for}
use Rattle.word_places.proofs.places.kind.Goals as goal

pub returns-then-x-eq-EMPTY_ROW : goal.returns-then-x-eq-EMPTY_ROW
unfolding kind_for
returns-then-x-eq-EMPTY_ROW c = rw (← c.class_at-x.ensures, eq-eqb _ _ c.if-x-eq-EMPTY_ROW.true)

pub returns-then-big-x : goal.returns-then-big-x
unfolding kind_for
returns-then-big-x c = rw (← c.class_at-x.ensures, ne_eqb _ _ c.if-x-eq-EMPTY_ROW.false, c.if-big-x.true)

pub returns : goal.returns
unfolding kind_for
returns c = rw (← c.class_at-x.ensures, ne_eqb _ _ c.if-x-eq-EMPTY_ROW.false, c.if-big-x.false)
