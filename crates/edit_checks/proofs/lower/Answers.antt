use Rattle.lists.proofs.Kit.{sym, ◌∙◌, arith}
use Rattle.edit_checks.proofs.Numbers.{lower_second, lower_first, lower_both}
use Rattle.edit_checks.proofs.lower.Goals as goal

pub returns-then-f-eq0 : goal.returns-then-f-eq0
returns-then-f-eq0 c = sym (lower_second _ _ c.if-f-eq0.true)

pub returns-then-g-eq0 : goal.returns-then-g-eq0
returns-then-g-eq0 c = sym (lower_first _ _ c.if-f-eq0.false c.if-g-eq0.true)

pub returns-then-f-g : goal.returns-then-f-g
returns-then-f-g c = omega (arith, c.if-f-g.true) ∙ sym (lower_both _ _ c.if-f-eq0.false c.if-g-eq0.false)

pub returns-else-f-g : goal.returns-else-f-g
returns-else-f-g c = omega (arith, c.if-f-g.false) ∙ sym (lower_both _ _ c.if-f-eq0.false c.if-g-eq0.false)
