-- `editing::edit_into` meets its contract: what the call answers, and leaves in all that it is lent, is compared. Assumes nothing.
use Rattle.replay_tables.proofs.Keeping.{kept_compared}
use Rattle.replay_tables.proofs.editing.edit_into.Goals as goal

pub returns : goal.returns
returns c =
    let given = c.args in
    kept_compared given.k given.points.now given.content given.text.now given.folds.now given.table.now given.stored.now
    c.edited-n.ensures c.compared_all.ensures
