-- `vim_grammar::VimToken::speaks` meets its contract: the tests of the definition, by the branches. Assumes nothing.
use borrow.Author.Tests.{eq-eqb, ne_eqb, le-leb, lt-leb}
use Rattle.vim_grammar.proofs.VimToken.speaks.Goals as goal

pub returns-then-self-eq0 : goal.returns-then-self-eq0
returns-then-self-eq0 c = rw (eq-eqb _ _ c.if-self-eq0.true)

pub returns-then-self-eq1 : goal.returns-then-self-eq1
returns-then-self-eq1 c = rw (ne_eqb _ _ c.if-self-eq0.false, eq-eqb _ _ c.if-self-eq1.true) c.requires

pub returns-then-c-self : goal.returns-then-c-self
returns-then-c-self c = rw (ne_eqb _ _ c.if-self-eq0.false, ne_eqb _ _ c.if-self-eq1.false, lt-leb _ _ c.if-c-self.true)

pub returns : goal.returns
returns c = rw (
  ne_eqb _ _ c.if-self-eq0.false,
  ne_eqb _ _ c.if-self-eq1.false,
  le-leb _ _ c.if-c-self.false,
)
