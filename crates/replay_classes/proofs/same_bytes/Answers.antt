-- `same_bytes` meets its contract. The invariant of its loop: what is left decides. Assumes nothing.
use Rattle.lists.proofs.Kit.{sym, ◌∙◌, arith}
use Rattle.lists.proofs.Same.{same_long, same_on, same_stop, same_end}
use Rattle.replay_classes.proofs.same_bytes.Goals as goal

pub returns-then-a-b : goal.returns-then-a-b
returns-then-a-b c = sym (same_long _ _ c.if-a-b.true)

pub returns-then-x-b : goal.returns-then-x-b
returns-then-x-b c =
    sym (c.loop-i.invariant ∙ same_stop _ _ c.loop-i.i (omega arith) (omega arith) c.if-x-b.true)

pub loop-i-preserved : goal.loop-i-preserved
loop-i-preserved c =
    c.loop-i.invariant ∙ same_on _ _ c.loop-i.i (omega arith) (omega arith) c.if-x-b.false

pub returns : goal.returns
returns c =
    sym (c.loop-i.invariant ∙ same_end _ _ c.loop-i.i c.loop-i-test.false (omega arith))
