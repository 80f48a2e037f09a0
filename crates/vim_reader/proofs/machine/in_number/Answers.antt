-- `machine::in_number` meets its contract: what is no digit ends the number, and a digit goes on with it up to 255. Assumes nothing.
use Rattle.lists.proofs.Kit.{sym, ◌∙◌, arith}
use Rattle.vim_reader.proofs.MachineLaws.{digit_low, digit_high, number_behind, number_on, number_dead}
use Rattle.vim_reader.proofs.machine.in_number.Goals as goal

pub returns-then-not-is_digit : goal.returns-then-not-is_digit
returns-then-not-is_digit c = c.after_end.ensures ∙ sym (number_behind _ _ _ (sym c.is_digit.ensures ∙ c.if-not-is_digit.true))

pub returns-then-v-gt25 : goal.returns-then-v-gt25
returns-then-v-gt25 c = sym (number_dead _ _ _ (sym c.is_digit.ensures ∙ c.if-not-is_digit.false) (omega arith))

pub overflow_sub-w : goal.overflow_sub-w
overflow_sub-w c = omega (arith, digit_low c.args.x (sym c.is_digit.ensures ∙ c.if-not-is_digit.false))

pub overflow_add-w : goal.overflow_add-w
overflow_add-w c = omega (arith, digit_high c.args.x (sym c.is_digit.ensures ∙ c.if-not-is_digit.false))

pub returns-then-w-gt255 : goal.returns-then-w-gt255
returns-then-w-gt255 c = sym (number_dead _ _ _ (sym c.is_digit.ensures ∙ c.if-not-is_digit.false) c.if-w-gt255.true)

pub returns : goal.returns
returns c = sym (number_on _ _ _ (sym c.is_digit.ensures ∙ c.if-not-is_digit.false) c.if-w-gt255.false)
