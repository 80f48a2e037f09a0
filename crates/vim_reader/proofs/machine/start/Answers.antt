-- `machine::start` meets its contract: `^`, or the first of an item. Assumes nothing.
use borrow.Author.Rules.{rules}
use Rattle.vim_reader.proofs.MachineLaws.{start_caret, start_first}
use Rattle.vim_reader.proofs.machine.start.Goals as goal

pub returns-then-x-eq-CARET : goal.returns-then-x-eq-CARET
returns-then-x-eq-CARET c = search (rules, start_caret)

pub returns : goal.returns
returns c = search (rules, start_first)
