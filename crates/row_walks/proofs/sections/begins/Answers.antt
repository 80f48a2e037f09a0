-- `row_walks::sections::begins` meets its contract: the code point at the row's start tells.
-- Assumes nothing.
use Rattle.lists.proofs.Kit.{sym, arith}
use Rattle.text.proofs.At.{at_start}
use Rattle.row_walks.proofs.Marks.{begins_end, begins_is}
use Rattle.row_walks.proofs.sections.begins.Goals as goal

pub returns-then-at-t : goal.returns-then-at-t
returns-then-at-t c =
    let required = c.requires.line in
    sym (begins_end c.args.x (at_start c.args.t.now c.args.l.row required.in_row)
    (omega (arith, required.begins, c.if-at-t.true)))

pub returns : goal.returns
returns c =
    let required = c.requires.line in
    rw required.begins (sym (begins_is c.args.x (at_start c.args.t.now c.args.l.row required.in_row)
    (omega (arith, required.begins, c.if-at-t.false)) c.requires.no_separator))
