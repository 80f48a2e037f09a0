-- `list_tokens::Token::holds` meets its contract: the tests of the definition, by the branches. Assumes nothing.
use borrow.Author.Tests.{eq-eqb, ne_eqb, le-leb, lt-leb}
use Rattle.list_tokens.proofs.Token.holds.Goals as goal

pub returns-then-self-eq1 : goal.returns-then-self-eq1
returns-then-self-eq1 c = rw (eq-eqb _ _ c.if-self-eq1.true) c.requires

pub returns-then-self-ne2 : goal.returns-then-self-ne2
returns-then-self-ne2 c = rw (ne_eqb _ _ c.if-self-eq1.false, ne_eqb _ _ c.if-self-ne2.true)

pub returns-then-c-self : goal.returns-then-c-self
returns-then-c-self c = rw (ne_eqb _ _ c.if-self-eq1.false, eq-eqb _ _ c.if-self-ne2.false, lt-leb _ _ c.if-c-self.true)

pub returns : goal.returns
returns c = rw (
  ne_eqb _ _ c.if-self-eq1.false,
  eq-eqb _ _ c.if-self-ne2.false,
  le-leb _ _ c.if-c-self.false,
)
