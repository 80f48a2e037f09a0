-- `list::vim_by` meets its contract: arm by arm. Assumes nothing.
use Rattle.lists.proofs.Kit.{ne_eqb}
use Rattle.call_vim.specs.Vim.{vim_by}
use Rattle.call_vim.proofs.list.vim_by.Goals as goal

pub returns-in-0 : goal.returns-in-0
unfolding vim_by
returns-in-0 c = rw c.in-0.is c.vim_count.ensures

pub returns-in-1 : goal.returns-in-1
unfolding vim_by
returns-in-1 c = rw c.in-1.is c.vim_matches.ensures

pub returns-in_default : goal.returns-in_default
unfolding vim_by
returns-in_default c = rw (ne_eqb _ 0 c.in_default.in_default-own.rest.0.1, ne_eqb _ 1 c.in_default.in_default-own.rest.1)
