-- `machine::second` meets its contract: by the branches. Assumes nothing.
use Rattle.lists.proofs.Kit.{sym, rules}
use Rattle.vim_reader.proofs.MachineLaws.{second_over, second_below, second_taken}
use Rattle.vim_reader.proofs.machine.second.Goals as goal

pub returns-then-most-lo : goal.returns-then-most-lo
returns-then-most-lo c = let most_told =
    c.most.ensures in let taken = c.if-most-lo.true in sym (second_below _ _ _ _ c.if-v-gt255.false (rw most_told at taken))

pub returns : goal.returns
returns c = let most_told =
    c.most.ensures in let left = c.if-most-lo.false in sym (second_taken _ _ _ _ c.if-v-gt255.false (rw most_told at left))

pub returns-then-v-gt255 : goal.returns-then-v-gt255
returns-then-v-gt255 c = search (rules, second_over)
