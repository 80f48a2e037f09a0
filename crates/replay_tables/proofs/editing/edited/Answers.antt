-- `editing::edited` meets its contract: it is the call of the operation. Assumes nothing.
use Rattle.replay_tables.proofs.Keeping.{to_insert, put_insert, to_delete, put_delete}
use Rattle.replay_tables.proofs.editing.edited.Goals as goal

pub returns-then-k-eq1 : goal.returns-then-k-eq1
returns-then-k-eq1 c =
    let given = c.args in
    let inserts = c.if-k-eq1.true in
    rw (to_insert given.k given.points.now inserts, put_insert given.k given.points.now inserts) c.insert_rows.ensures

pub returns : goal.returns
returns c =
    let given = c.args in
    let deletes = c.if-k-eq1.false in
    rw (to_delete given.k given.points.now deletes, put_delete given.k given.points.now deletes) c.delete_rows.ensures
