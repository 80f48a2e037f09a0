use borrow.Author.Tests.{eq-eqb, ne_eqb}
use Rattle.edit_folds.specs.Folds.{is_lost}
use Rattle.edit_folds.proofs.is_lost.Goals as goal

pub returns-then-s-e : goal.returns-then-s-e
unfolding is_lost
returns-then-s-e c = rw (eq-eqb _ _ c.if-s-e.true)

pub returns : goal.returns
unfolding is_lost
returns c = rw (ne_eqb _ _ c.if-s-e.false)
