-- `vim_write` meets its contract: the test of the definition, and the places that are lent. Assumes nothing.
use Rattle.lists.proofs.Kit.{sym, replicate, length-take-le, le-leb, lt-leb}
use Rattle.replay_verdicts.specs.Answers.{filler}
use Rattle.replay_verdicts.proofs.Comparing.{take_replicate}
use Rattle.replay_vim.specs.Vim.{vim_write_verdict}
use Rattle.replay_vim.proofs.vim_write.Goals as goal

pub returns-then-room-gt64 : goal.returns-then-room-gt64
unfolding vim_write_verdict
returns-then-room-gt64 c = rw (lt-leb _ 64 c.if-room-gt64.true)

pub slice_bounds-write_into-end : goal.slice_bounds-write_into-end
slice_bounds-write_into-end c = sym (length-take-le _ (replicate 64 filler) c.if-room-gt64.false)

pub returns : goal.returns
unfolding vim_write_verdict
returns c =
    let given_k = c.args.k in
    rw (le-leb _ 64 c.if-room-gt64.false, ← take_replicate given_k.a 64 filler c.if-room-gt64.false) c.write_into.ensures
