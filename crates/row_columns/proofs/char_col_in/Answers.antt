use Rattle.lists.proofs.Kit.{eq-eqb, ne_eqb}
use Rattle.row_columns.proofs.Accepted.{ready}
use Rattle.row_columns.proofs.char_col_in.Goals as goal

pub returns-then-visual-eq0 : goal.returns-then-visual-eq0
returns-then-visual-eq0 c = rw (eq-eqb _ 0 c.if-visual-eq0.true)

pub char_at-requires : goal.char_at-requires
char_at-requires c = ready c.requires c.stop_of.ensures

pub returns : goal.returns
returns c = rw (ne_eqb _ 0 c.if-visual-eq0.false, ← c.stop_of.ensures) c.char_at.ensures
