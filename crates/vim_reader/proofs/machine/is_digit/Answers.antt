-- `machine::is_digit` meets its contract: by the branches. Assumes nothing.
use Rattle.lists.proofs.Kit.{rules, le-leb, lt-leb}
use Rattle.vim_reader.proofs.machine.is_digit.Goals as goal

pub returns-then-x-lt-ZERO : goal.returns-then-x-lt-ZERO
returns-then-x-lt-ZERO c = search (rules, lt-leb)

pub returns : goal.returns
returns c = search (rules, le-leb)
