-- `row_walks::paragraphs::is_void` meets its contract: the code point at the row's start tells.
-- Assumes nothing.
use Rattle.lists.proofs.Kit.{sym, arith}
use Rattle.text.proofs.At.{at_start}
use Rattle.row_walks.proofs.Walks.{void_end, void_is}
use Rattle.row_walks.proofs.paragraphs.is_void.Goals as goal

pub returns-then-at-t : goal.returns-then-at-t
returns-then-at-t c =
    sym (void_end (at_start c.args.t.now c.args.l.row c.requires.in_row) (omega (arith, c.requires.begins, c.if-at-t.true)))

pub returns : goal.returns
returns c =
    rw c.requires.begins (sym (void_is (at_start c.args.t.now c.args.l.row c.requires.in_row)
    (omega (arith, c.requires.begins, c.if-at-t.false))))
