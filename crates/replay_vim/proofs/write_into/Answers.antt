-- `write_into` meets its contract: what the call answers, and leaves in both lent places, is compared. Assumes nothing.
use Rattle.replay_vim.proofs.Placing.{written_compared}
use Rattle.replay_vim.proofs.write_into.Goals as goal

pub returns : goal.returns
returns c =
    let given = c.args in
    let vim_write_told = c.vim_write-told.ensures in
    written_compared given.list.now given.written.now given.stored.now vim_write_told.replied (rw vim_write_told.written_after at c.compared_three.ensures)
