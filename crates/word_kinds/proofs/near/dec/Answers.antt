-- `word_kinds::near::dec` meets its contract, by the code point before the place. Assumes nothing.
use Rattle.lists.proofs.Kit.{arith}
use Rattle.word_kinds.proofs.Back.{back_none, back_below, back_row, back_char}
use Rattle.word_kinds.proofs.Telling.{steps_to, steps_nowhere}
use Rattle.word_kinds.proofs.near.dec.Goals as goal

pub returns-then-at-eq0 : goal.returns-then-at-eq0
returns-then-at-eq0 c =
    steps_nowhere (back_none c.args.t.now c.args.p c.requires c.if-at-eq0.true)

-- a separator before the place: its row is not the first
pub overflow_sub-result : goal.overflow_sub-result
overflow_sub-result c =
    back_below c.args.t.now c.args.p c.requires (omega (arith, c.if-at-eq0.false)) c.if-t-prev-eq10.true

pub returns-then-t-prev-eq10 : goal.returns-then-t-prev-eq10
returns-then-t-prev-eq10 c =
    let left = c.if-at-eq0.false in
    steps_to (back_row c.args.t.now c.args.p c.requires (omega (arith, left)) c.if-t-prev-eq10.true) (omega arith) (omega (arith, left))

pub returns : goal.returns
returns c =
    let left = c.if-at-eq0.false in
    steps_to (back_char c.args.t.now c.args.p c.requires (omega (arith, left)) c.if-t-prev-eq10.false) (omega arith) (omega (arith, left))
