-- `edited` meets its contract, by the operation. Assumes nothing.
use Rattle.replay_edits.proofs.Comparing.{to_insert, put_insert, to_delete, put_delete}
use Rattle.replay_edits.proofs.edited.Goals as goal

pub returns-then-k-eq0 : goal.returns-then-k-eq0
returns-then-k-eq0 c =
    let given = c.args in
    let taken = c.if-k-eq0.true in
    rw (to_insert given.k given.points.now taken, put_insert given.k given.points.now taken) c.insert.ensures

pub returns : goal.returns
returns c =
    let given = c.args in
    let left = c.if-k-eq0.false in
    rw (to_delete given.k given.points.now left, put_delete given.k given.points.now left) c.delete.ensures
