-- `moves::sticky_of` meets its contract, arm by arm. Assumes nothing.
use borrow.Author.Tests.{eq-eqb, ne_eqb}
use Rattle.call_texts.proofs.moves.sticky_of.Goals as goal

pub returns-then-held-eq0 : goal.returns-then-held-eq0
returns-then-held-eq0 c = rw (eq-eqb _ 0 c.if-held-eq0.true)

pub returns : goal.returns
returns c = rw (ne_eqb _ 0 c.if-held-eq0.false)
