-- `machine::after_end` meets its contract: by the branches. Assumes nothing.
use borrow.Author.Rules.{rules}
use Rattle.vim_reader.proofs.MachineLaws.{behind_comma, behind_dash, behind_dead}
use Rattle.vim_reader.proofs.machine.after_end.Goals as goal

pub returns-then-x-eq-COMMA : goal.returns-then-x-eq-COMMA
returns-then-x-eq-COMMA c = search (rules, behind_comma)

pub returns-then-x-eq-MINUS : goal.returns-then-x-eq-MINUS
returns-then-x-eq-MINUS c = search (rules, behind_dash)

pub returns : goal.returns
returns c = search (rules, behind_dead)
