-- `wrapped::move_screen` meets its contract, mode by mode. Assumes nothing.
use Rattle.lists.proofs.Kit.{ap, ◌∙◌, eq-eqb, ne_eqb}
use Rattle.screen.specs.Keeping.{unkept}
use Rattle.screen.proofs.wrapped.move_screen.Goals as goal

pub returns-then-cells-eq0 : goal.returns-then-cells-eq0
returns-then-cells-eq0 c =
    rw (eq-eqb _ 0 c.if-cells-eq0.true) (c.unkept.ensures ∙ ap unkept c.move_rows.ensures)

pub returns-in-None : goal.returns-in-None
returns-in-None c =
    rw (ne_eqb _ 0 c.if-cells-eq0.false, c.in-None.is)
    (c.unkept-in-None.ensures ∙ ap unkept c.move_rows-in-None.ensures)

pub returns-in-Char : goal.returns-in-Char
returns-in-Char c = rw (ne_eqb _ 0 c.if-cells-eq0.false, c.in-Char.is) c.move_broken.ensures

pub returns-in-Word : goal.returns-in-Word
returns-in-Word c = rw (ne_eqb _ 0 c.if-cells-eq0.false, c.in-Word.is) c.move_broken-in-Word.ensures
