-- `write_into` meets its contract: what the call answers, and leaves in both lent places, is compared. Assumes nothing.
use Rattle.lists.proofs.Kit.{◌∙◌}
use Rattle.replay_fold_file.proofs.Filed.{written_compared}
use Rattle.replay_fold_file.proofs.write_into.Goals as goal

pub returns : goal.returns
returns c =
    let given = c.args in
    let folds_write_told = c.folds_write-told.ensures in
    written_compared given.text.now given.folds.now given.file.now given.stored.now folds_write_told.replied
    (rw (c.widen.ensures ∙ folds_write_told.file_after) at c.compared_two.ensures)
