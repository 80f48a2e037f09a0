-- `row_columns::char_at` meets its contract. The invariant of its loop: the character sought is not among those passed, whose cells end at `visual`.
-- Assumes nothing.
use Rattle.row_columns.proofs.Chars.{char_start, char_next, char_stop, char_end}
use Rattle.row_columns.proofs.char_at.Goals as goal

pub loop-i-init : goal.loop-i-init
loop-i-init c = char_start _ _ _ _

pub returns-then-next-target : goal.returns-then-next-target
returns-then-next-target c =
    char_stop c.loop-i.invariant c.loop-i-test.true c.cell_width.ensures.cells c.if-next-target.true

pub loop-i-preserved : goal.loop-i-preserved
loop-i-preserved c =
    let cell_width_told = c.cell_width.ensures in
    char_next c.loop-i.invariant c.loop-i-test.true cell_width_told.cells cell_width_told.small c.if-next-target.false

pub returns : goal.returns
returns c = char_end c.loop-i.invariant c.loop-i-test.false
