-- `by_class` meets its contract: the test of the definition, and the slice that is lent. Assumes nothing.
use Rattle.lists.proofs.Kit.{sym, replicate, length-take-le, le-leb, lt-leb}
use Rattle.replay_verdicts.proofs.Comparing.{take_replicate}
use Rattle.replay_classes.specs.Classes.{class_verdict}
use Rattle.replay_classes.proofs.by_class.Goals as goal

pub returns-then-room-gt64 : goal.returns-then-room-gt64
unfolding class_verdict
returns-then-room-gt64 c = rw (lt-leb _ 64 c.if-room-gt64.true)

pub slice_bounds-into-end : goal.slice_bounds-into-end
slice_bounds-into-end c = sym (length-take-le _ (replicate 64 165) c.if-room-gt64.false)

pub returns : goal.returns
unfolding class_verdict
returns c =
    let given_k = c.args.k in
    rw (le-leb _ 64 c.if-room-gt64.false, ← take_replicate given_k.g 64 165 c.if-room-gt64.false) c.into.ensures
