-- `without_plus` meets its contract: the test of the definition, and the places that are lent. Assumes nothing.
use Rattle.lists.proofs.Kit.{sym, replicate, length-take-le, le-leb, lt-leb}
use Rattle.replay_verdicts.specs.Answers.{filler}
use Rattle.replay_verdicts.proofs.Comparing.{take_replicate}
use Rattle.replay_signs.specs.Signs.{plain_verdict}
use Rattle.replay_signs.proofs.without_plus.Goals as goal

pub returns-then-room-gt64 : goal.returns-then-room-gt64
unfolding plain_verdict
returns-then-room-gt64 c = rw (lt-leb _ 64 c.if-room-gt64.true)

pub slice_bounds-plain_into-end : goal.slice_bounds-plain_into-end
slice_bounds-plain_into-end c = sym (length-take-le _ (replicate 64 filler) c.if-room-gt64.false)

pub returns : goal.returns
unfolding plain_verdict
returns c =
    let given_k = c.args.k in
    rw (le-leb _ 64 c.if-room-gt64.false, ← take_replicate given_k.a 64 filler c.if-room-gt64.false) c.plain_into.ensures
