-- `word_kinds::near::step_forward` meets its contract, by the code point at the place and the one after it. Assumes nothing.
use Rattle.lists.proofs.Kit.{arith}
use Rattle.word_kinds.proofs.Ahead.{end_forward, nl_forward, last_forward, row_forward, char_forward, char_spot}
use Rattle.word_kinds.proofs.Telling.{tells_too, steps_to, steps_nowhere, steps_low}
use Rattle.word_kinds.proofs.near.step_forward.Goals as goal

pub returns-then-at-t : goal.returns-then-at-t
returns-then-at-t c =
    steps_nowhere (end_forward c.args.t.now c.args.p c.requires c.if-at-t.true)

pub returns-then-t-at-eq10 : goal.returns-then-t-at-eq10
returns-then-t-at-eq10 c =
    tells_too c.next_row.ensures (nl_forward c.args.t.now c.args.p c.requires (omega (arith, c.if-at-t.false)) c.if-t-at-eq10.true)

pub returns-then-next-t : goal.returns-then-next-t
returns-then-next-t c =
    steps_nowhere (last_forward c.args.t.now c.args.p c.requires (omega (arith, c.if-at-t.false)) c.if-t-at-eq10.false c.if-next-t.true)

-- the separator behind the character ends the row
pub next_row-requires-then-t-next-eq10 : goal.next_row-requires-then-t-next-eq10
next_row-requires-then-t-next-eq10 c =
    record {
      stands = char_spot c.args.t.now c.args.p c.requires (omega (arith, c.if-at-t.false)) c.if-t-at-eq10.false;
      within = omega (arith, c.if-next-t.false);
      nl = c.if-t-next-eq10.true;
    }

pub returns-then-t-next-eq10 : goal.returns-then-t-next-eq10
returns-then-t-next-eq10 c =
    tells_too (steps_low c.next_row-then-t-next-eq10.result c.next_row-then-t-next-eq10.ensures (omega arith))
    (row_forward c.args.t.now c.args.p c.requires (omega (arith, c.if-at-t.false)) c.if-t-at-eq10.false
    (omega (arith, c.if-next-t.false)) c.if-t-next-eq10.true)

pub returns : goal.returns
returns c =
    steps_to (char_forward c.args.t.now c.args.p c.requires (omega (arith, c.if-at-t.false)) c.if-t-at-eq10.false
    (omega (arith, c.if-next-t.false)) c.if-t-next-eq10.false) (omega arith) (omega (arith, c.if-next-t.false))
