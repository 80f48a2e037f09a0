-- `with_room` meets its contract: the test of the definition, and the places that are lent. Assumes nothing.
use Rattle.lists.proofs.Kit.{sym, replicate, length-take-le, le-leb, lt-leb}
use Rattle.replay_verdicts.specs.Answers.{filler}
use Rattle.replay_verdicts.proofs.Comparing.{take_replicate}
use Rattle.replay_jumps.specs.Jumps.{room_verdict}
use Rattle.replay_jumps.proofs.with_room.Goals as goal

pub returns-then-room-gt64 : goal.returns-then-room-gt64
unfolding room_verdict
returns-then-room-gt64 c = rw (lt-leb _ 64 c.if-room-gt64.true)

pub slice_bounds-jumped_into-end : goal.slice_bounds-jumped_into-end
slice_bounds-jumped_into-end c = sym (length-take-le _ (replicate 64 filler) c.if-room-gt64.false)

pub jumped_into-requires : goal.jumped_into-requires
jumped_into-requires c = rw (length-take-le _ (replicate 64 filler) c.if-room-gt64.false) c.if-room-gt64.false

pub returns : goal.returns
unfolding room_verdict
returns c =
    let given_k = c.args.k in
    rw (le-leb _ 64 c.if-room-gt64.false, ← take_replicate given_k.g 64 filler c.if-room-gt64.false) c.jumped_into.ensures
