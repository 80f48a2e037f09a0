-- `machine::in_second` meets its contract: a digit goes on with the number, and a comma ends it. Assumes nothing.
use Rattle.lists.proofs.Kit.{sym, ◌∙◌, arith}
use Rattle.vim_reader.proofs.MachineLaws.{digit_low, digit_high, second_over, in_second_digit, in_second_other, in_second_below, in_second_comma}
use Rattle.vim_reader.proofs.machine.in_second.Goals as goal

pub returns-then-v-gt25 : goal.returns-then-v-gt25
returns-then-v-gt25 c = sym (in_second_digit _ _ _ _ _ (sym c.is_digit.ensures ∙ c.if-is_digit.true) ∙ second_over _ _ _ _ (omega arith))

pub overflow_sub-x : goal.overflow_sub-x
overflow_sub-x c = omega (arith, digit_low c.args.x (sym c.is_digit.ensures ∙ c.if-is_digit.true))

pub overflow_add-v : goal.overflow_add-v
overflow_add-v c = omega (arith, digit_high c.args.x (sym c.is_digit.ensures ∙ c.if-is_digit.true))

pub returns-then-is_digit : goal.returns-then-is_digit
returns-then-is_digit c = c.second.ensures ∙ sym (in_second_digit _ _ _ _ _ (sym c.is_digit.ensures ∙ c.if-is_digit.true))

pub returns-then-x-ne-COMMA : goal.returns-then-x-ne-COMMA
returns-then-x-ne-COMMA c = sym (in_second_other _ _ _ _ _ (sym c.is_digit.ensures ∙ c.if-is_digit.false) c.if-x-ne-COMMA.true)

pub returns-then-v-lo : goal.returns-then-v-lo
returns-then-v-lo c = sym (in_second_below _ _ _ _ _ (sym c.is_digit.ensures ∙ c.if-is_digit.false) c.if-x-ne-COMMA.false
    c.if-v-lo.true)

pub returns : goal.returns
returns c = sym (in_second_comma _ _ _ _ _ (sym c.is_digit.ensures ∙ c.if-is_digit.false) c.if-x-ne-COMMA.false
    c.if-v-lo.false)
