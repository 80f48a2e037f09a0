-- `vim` meets its contract: the operation decides. Assumes nothing.
use Rattle.lists.proofs.Kit.{eq-eqb, ne_eqb}
use Rattle.replay_vim.specs.Vim.{vim_verdict}
use Rattle.replay_vim.proofs.vim.Goals as goal

pub returns-then-k-eq2 : goal.returns-then-k-eq2
unfolding vim_verdict
returns-then-k-eq2 c = rw (eq-eqb _ 2 c.if-k-eq2.true) c.vim_write.ensures

pub returns : goal.returns
unfolding vim_verdict
returns c = rw (ne_eqb _ 2 c.if-k-eq2.false) c.vim_list.ensures
