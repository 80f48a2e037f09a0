-- `machine::first` meets its contract: a digit, another character of ASCII, or neither. Assumes nothing.
use Rattle.lists.proofs.Kit.{sym, ◌∙◌, arith}
use Rattle.vim_reader.proofs.MachineLaws.{digit_low, first_digit, first_sign_lem, first_dead}
use Rattle.vim_reader.proofs.machine.first.Goals as goal

pub overflow_sub-result : goal.overflow_sub-result
overflow_sub-result c = omega (arith, digit_low c.args.x (sym c.is_digit.ensures ∙ c.if-is_digit.true))

pub returns-then-is_digit : goal.returns-then-is_digit
returns-then-is_digit c = sym (first_digit _ _ (sym c.is_digit.ensures ∙ c.if-is_digit.true))

pub returns-then-x-le127 : goal.returns-then-x-le127
returns-then-x-le127 c = sym (first_sign_lem _ _ (sym c.is_digit.ensures ∙ c.if-is_digit.false) c.if-x-le127.true)

pub returns : goal.returns
returns c = sym (first_dead _ _ (sym c.is_digit.ensures ∙ c.if-is_digit.false) c.if-x-le127.false)
