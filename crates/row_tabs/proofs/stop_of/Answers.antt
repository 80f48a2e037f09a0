use borrow.Author.Tests.{eq-eqb, ne_eqb}
use Rattle.row_tabs.specs.Cells.{stop_of}
use Rattle.row_tabs.proofs.stop_of.Goals as goal

pub returns-then-tabstop-eq0 : goal.returns-then-tabstop-eq0
unfolding stop_of
returns-then-tabstop-eq0 c = rw (eq-eqb _ _ c.if-tabstop-eq0.true)

pub returns : goal.returns
unfolding stop_of
returns c = rw (ne_eqb _ _ c.if-tabstop-eq0.false)
