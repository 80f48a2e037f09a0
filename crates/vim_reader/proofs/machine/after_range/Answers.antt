-- `machine::after_range` meets its contract: by the branches. Assumes nothing.
use borrow.Author.Rules.{rules}
use Rattle.vim_reader.proofs.MachineLaws.{done_comma, done_dead}
use Rattle.vim_reader.proofs.machine.after_range.Goals as goal

pub returns-then-x-eq-COMMA : goal.returns-then-x-eq-COMMA
returns-then-x-eq-COMMA c = search (rules, done_comma)

pub returns : goal.returns
returns c = search (rules, done_dead)
