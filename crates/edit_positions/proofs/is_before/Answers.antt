use borrow.Author.Tests.{eq-eqb, ne_eqb}
use Rattle.edit_positions.specs.Change.{is_before}
use Rattle.edit_positions.proofs.is_before.Goals as goal

pub returns-then-p-q : goal.returns-then-p-q
unfolding is_before
returns-then-p-q c = rw (eq-eqb _ _ c.if-p-q.true)

pub returns : goal.returns
unfolding is_before
returns c = rw (ne_eqb _ _ c.if-p-q.false)
