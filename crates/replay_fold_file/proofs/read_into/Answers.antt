-- `read_into` meets its contract: what the call answers, and leaves in both lent places, is compared. Assumes nothing.
use Rattle.replay_fold_file.proofs.Filed.{loaded_compared}
use Rattle.replay_fold_file.proofs.read_into.Goals as goal

pub returns : goal.returns
returns c =
    let given = c.args in
    let folds_read_told = c.folds_read-told.ensures in
    loaded_compared given.text.now given.file.now given.folds.now given.stored.now folds_read_told.replied
    (rw folds_read_told.folds_after at c.compared_two.ensures)
