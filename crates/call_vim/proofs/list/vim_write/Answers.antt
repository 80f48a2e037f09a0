-- `list::vim_write` meets its contract: it hands on what the call answers. Assumes nothing.
use Rattle.call_vim.proofs.list.vim_write.Goals as goal

pub returns : goal.returns
returns c =
    let vim_written_told = c.vim_written.ensures in
    record { replied = rw (← vim_written_told.value) c.reply_placed.ensures; written_after = vim_written_told.written_after }
