use Rattle.lists.proofs.Kit.{arith, length, lt-ltb, le-ltb}
use Rattle.jumps.proofs.call.answer_refusal.Goals as goal

pub returns-then-places-jumps : goal.returns-then-places-jumps
returns-then-places-jumps c = rw (lt-ltb _ _ c.if-places-jumps.true)

pub returns : goal.returns
returns c =
    let given = c.args in
    rw (le-ltb given.places (length given.jumps.now) (omega (arith, c.if-places-jumps.false)))
