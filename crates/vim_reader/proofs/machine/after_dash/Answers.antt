-- `machine::after_dash` meets its contract: a digit, a character from the first end on, or neither. Assumes nothing.
use Rattle.lists.proofs.Kit.{sym, ◌∙◌, arith}
use Rattle.vim_reader.proofs.MachineLaws.{digit_low, dash_digit, dash_below, dash_above, dash_done}
use Rattle.vim_reader.proofs.machine.after_dash.Goals as goal

pub overflow_sub-x : goal.overflow_sub-x
overflow_sub-x c = omega (arith, digit_low c.args.x (sym c.is_digit.ensures ∙ c.if-is_digit.true))

pub returns-then-is_digit : goal.returns-then-is_digit
returns-then-is_digit c = c.second.ensures ∙ sym (dash_digit _ _ _ _ (sym c.is_digit.ensures ∙ c.if-is_digit.true))

pub returns-then-x-lo : goal.returns-then-x-lo
returns-then-x-lo c = sym (dash_below _ _ _ _ (sym c.is_digit.ensures ∙ c.if-is_digit.false) c.if-x-lo.true)

pub returns-then-x-gt127 : goal.returns-then-x-gt127
returns-then-x-gt127 c = sym (dash_above _ _ _ _ (sym c.is_digit.ensures ∙ c.if-is_digit.false) c.if-x-lo.false
    c.if-x-gt127.true)

pub returns : goal.returns
returns c = sym (dash_done _ _ _ _ (sym c.is_digit.ensures ∙ c.if-is_digit.false) c.if-x-lo.false c.if-x-gt127.false)
