-- `word_kinds::near::inc` meets its contract, by the code point at the place. Assumes nothing.
use Rattle.lists.proofs.Kit.{arith}
use Rattle.word_kinds.proofs.Ahead.{end_inc, nl_inc, char_inc}
use Rattle.word_kinds.proofs.Telling.{tells_too, steps_to, steps_nowhere}
use Rattle.word_kinds.proofs.near.inc.Goals as goal

pub returns-then-at-t : goal.returns-then-at-t
returns-then-at-t c =
    steps_nowhere (end_inc c.args.t.now c.args.p c.requires c.if-at-t.true)

pub returns-then-t-at-eq10 : goal.returns-then-t-at-eq10
returns-then-t-at-eq10 c =
    tells_too c.next_row.ensures (nl_inc c.args.t.now c.args.p c.requires (omega (arith, c.if-at-t.false)) c.if-t-at-eq10.true)

pub returns : goal.returns
returns c =
    let left = c.if-at-t.false in
    steps_to (char_inc c.args.t.now c.args.p c.requires (omega (arith, left)) c.if-t-at-eq10.false) (omega arith) (omega (arith, left))
