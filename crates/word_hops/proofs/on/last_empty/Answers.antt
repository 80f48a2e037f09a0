use Rattle.lists.proofs.Kit.{arith, lt-ltb, le-ltb}
use Rattle.word_hops.proofs.on.last_empty.Goals as goal

pub returns-then-end-eq0 : goal.returns-then-end-eq0
returns-then-end-eq0 c =
    rw (← c.text_end-end.ensures, le-ltb 0 c.text_end-end.result (omega (arith, c.if-end-eq0.true)))

pub returns : goal.returns
returns c =
    rw (← c.text_end-end.ensures, lt-ltb 0 c.text_end-end.result (omega (arith, c.if-end-eq0.false)), ← c.class_at.ensures)
