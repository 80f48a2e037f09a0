-- `word_kinds::near::end_of_buffer` meets its contract, by the last code point. Assumes nothing.
use Rattle.lists.proofs.Kit.{arith}
use Rattle.text.proofs.Content.{content_near}
use Rattle.word_kinds.proofs.Back.{end_nl, end_char}
use Rattle.word_kinds.proofs.near.end_of_buffer.Goals as goal

pub overflow_sub-result : goal.overflow_sub-result
overflow_sub-result c =
    omega (arith, c.requires, content_near c.args.t.now)

pub returns-then-n-eq0 : goal.returns-then-n-eq0
returns-then-n-eq0 c =
    rw c.requires (end_char c.args.t.now (λ h e. omega (arith, c.if-n-eq0.true)))

pub overflow_sub-result-then-t-last-eq10 : goal.overflow_sub-result-then-t-last-eq10
overflow_sub-result-then-t-last-eq10 c =
    omega (arith, c.requires, content_near c.args.t.now)

pub returns-then-t-last-eq10 : goal.returns-then-t-last-eq10
returns-then-t-last-eq10 c =
    rw c.requires (end_nl c.args.t.now (omega (arith, c.if-n-eq0.false)) c.if-t-last-eq10.true)

pub overflow_sub-result-2 : goal.overflow_sub-result-2
overflow_sub-result-2 c =
    omega (arith, c.requires, content_near c.args.t.now)

pub returns : goal.returns
returns c =
    rw c.requires (end_char c.args.t.now (λ h. c.if-t-last-eq10.false))
