-- `list::vim_list` meets its contract: it hands on what the operation answers. Assumes nothing.
use Rattle.call_vim.proofs.list.vim_list.Goals as goal

pub returns : goal.returns
returns c = rw (← c.vim_by.ensures) c.reply_placed.ensures
