-- `folds_write` meets its contract: the test of the definition, and the places that are lent. Assumes nothing.
use Rattle.lists.proofs.Kit.{sym, ◌∙◌, replicate, length-take-le, le-leb, lt-leb}
use Rattle.replay_verdicts.proofs.Comparing.{take_replicate}
use Rattle.replay_fold_file.specs.FoldFiles.{write_verdict}
use Rattle.replay_fold_file.proofs.folds_write.Goals as goal

pub returns-then-room-gt2560 : goal.returns-then-room-gt2560
unfolding write_verdict
returns-then-room-gt2560 c = rw (lt-leb _ 2560 c.if-room-gt2560.true)

pub slice_bounds-write_into-end : goal.slice_bounds-write_into-end
slice_bounds-write_into-end c = sym (length-take-le _ (replicate 2560 165) c.if-room-gt2560.false)

pub slice_bounds-write_into-end-2 : goal.slice_bounds-write_into-end-2
slice_bounds-write_into-end-2 c = sym (length-take-le _ (replicate 2560 0) c.if-room-gt2560.false)

-- both have as many places
pub write_into-requires : goal.write_into-requires
write_into-requires c =
    let left = c.if-room-gt2560.false in
    length-take-le _ (replicate 2560 0) left ∙ sym (length-take-le _ (replicate 2560 165) left)

pub returns : goal.returns
unfolding write_verdict
returns c =
    let given_k = c.args.k in
    rw (le-leb _ 2560 c.if-room-gt2560.false, ← take_replicate given_k.a 2560 165 c.if-room-gt2560.false) c.write_into.ensures
