-- `text::content_of` meets its contract: the rows with content go by the last code point.
-- Assumes nothing.
use Rattle.lists.proofs.Kit.{sym, ◌∙◌, arith}
use Rattle.text.proofs.Rows.{rows_pos}
use Rattle.text.proofs.Content.{content_void, content_nl, content_char}
use Rattle.text.proofs.content_of.Goals as goal

pub returns-then-len-eq0 : goal.returns-then-len-eq0
returns-then-len-eq0 c = c.requires ∙ sym (content_void c.args.t.now c.if-len-eq0.true)

pub overflow_sub-result : goal.overflow_sub-result
overflow_sub-result c = omega (arith, rows_pos c.args.t.now)

pub returns-then-t-last-eq10 : goal.returns-then-t-last-eq10
returns-then-t-last-eq10 c =
    omega (arith, content_nl c.args.t.now (omega (arith, c.if-len-eq0.false)) c.if-t-last-eq10.true)

pub returns-else-t-last-eq10 : goal.returns-else-t-last-eq10
returns-else-t-last-eq10 c =
    omega (arith, content_char c.args.t.now (omega (arith, c.if-len-eq0.false)) c.if-t-last-eq10.false)
