-- `machine::most` meets its contract: by the branches. Assumes nothing.
use Rattle.lists.proofs.Kit.{sym, arith, rules}
use Rattle.vim_reader.proofs.MachineLaws.{most_one, most_two, most_mid, most_last, most_else}
use Rattle.vim_reader.proofs.machine.most.Goals as goal

pub returns : goal.returns
returns c = sym (most_else _ (omega arith))

pub returns-then-v-eq1 : goal.returns-then-v-eq1
returns-then-v-eq1 c = search (rules, most_one)

pub returns-then-v-le2 : goal.returns-then-v-le2
returns-then-v-le2 c = search (rules, most_two)

pub returns-then-v-le24 : goal.returns-then-v-le24
returns-then-v-le24 c = search (rules, most_mid)

pub returns-then-v-eq25 : goal.returns-then-v-eq25
returns-then-v-eq25 c = search (rules, most_last)
