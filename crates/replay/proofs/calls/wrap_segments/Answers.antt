-- `calls::wrap_segments` meets its contract: the tests of the definition in their order. Assumes nothing.
use Rattle.lists.proofs.Kit.{sym, replicate, length-take-le, le-leb, lt-leb}
use Rattle.replay.specs.Calls.{wrap_verdict}
use Rattle.replay_verdicts.specs.Answers.{filler}
use Rattle.replay_verdicts.proofs.Comparing.{take_replicate}
use Rattle.replay.proofs.calls.wrap_segments.Goals as goal

pub returns-then-width-gt65535 : goal.returns-then-width-gt65535
unfolding wrap_verdict
returns-then-width-gt65535 c = rw (lt-leb _ 65535 c.if-width-gt65535.true)

pub returns-then-room-gt64 : goal.returns-then-room-gt64
unfolding wrap_verdict
returns-then-room-gt64 c = rw (le-leb _ 65535 c.if-width-gt65535.false, lt-leb _ 64 c.if-room-gt64.true)

pub slice_bounds-wrap_into-end : goal.slice_bounds-wrap_into-end
slice_bounds-wrap_into-end c = sym (length-take-le _ (replicate 64 filler) c.if-room-gt64.false)

pub returns : goal.returns
unfolding wrap_verdict
returns c =
    let given_k = c.args.k in
    rw (le-leb _ 65535 c.if-width-gt65535.false, le-leb _ 64 c.if-room-gt64.false, ← take_replicate given_k.b 64 filler c.if-room-gt64.false)
    c.wrap_into.ensures
