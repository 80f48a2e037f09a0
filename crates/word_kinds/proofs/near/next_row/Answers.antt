-- `word_kinds::near::next_row` meets its contract: the next row has content exactly if it starts before the end of the text. Assumes nothing.
use Rattle.lists.proofs.Kit.{arith}
use Rattle.word_kinds.proofs.Onto.{next_yes, next_no}
use Rattle.word_kinds.proofs.Telling.{steps_to, steps_nowhere}
use Rattle.word_kinds.proofs.near.next_row.Goals as goal

pub returns-then-at-t : goal.returns-then-at-t
returns-then-at-t c =
    steps_to (next_yes c.args.t.now c.args.row c.args.end c.requires c.if-at-t.true) (omega arith) (omega arith)

pub returns : goal.returns
returns c =
    steps_nowhere (next_no c.args.t.now c.args.row c.args.end c.requires c.if-at-t.false)
