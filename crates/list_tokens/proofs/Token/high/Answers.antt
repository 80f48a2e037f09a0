use borrow.Author.Tests.{eq-eqb, ne_eqb}
use Rattle.list_tokens.proofs.Token.high.Goals as goal

pub returns-then-self-eq2 : goal.returns-then-self-eq2
returns-then-self-eq2 c = rw (eq-eqb _ _ c.if-self-eq2.true)

pub returns : goal.returns
returns c = rw (ne_eqb _ _ c.if-self-eq2.false)
