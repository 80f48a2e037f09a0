-- `carets::offset_of` meets its contract, arm by arm. Assumes nothing.
use borrow.Author.Tests.{eq-eqb, ne_eqb}
use Rattle.call_texts.proofs.carets.offset_of.Goals as goal

pub returns-then-kept-eq0 : goal.returns-then-kept-eq0
returns-then-kept-eq0 c = rw (eq-eqb _ 0 c.if-kept-eq0.true)

pub returns : goal.returns
returns c = rw (ne_eqb _ 0 c.if-kept-eq0.false)
