-- `row_walks::toward::beside` meets its contract: the row below, or the row above.
-- Assumes nothing.
use Rattle.row_walks.proofs.toward.beside.Goals as goal

pub next_line-requires : goal.next_line-requires
next_line-requires c =
    (c.requires.line, rw c.if-forward.true at c.requires.in_rows)

pub returns-then-forward : goal.returns-then-forward
returns-then-forward c = rw c.if-forward.true c.next_line.ensures

pub returns : goal.returns
returns c = rw c.if-forward.false c.prev_line.ensures
