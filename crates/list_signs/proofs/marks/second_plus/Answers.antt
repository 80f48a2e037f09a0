-- `list_signs::marks::second_plus` meets its contract: the tests of the definition in their order. Assumes nothing.
use Rattle.lists.proofs.Kit.{sym, ◌∙◌, arith, eq-eqb, ne_eqb}
use Rattle.lists.proofs.Finding.{up_to_most}
use Rattle.list_signs.proofs.RangeLaws.{seconds_none, seconds_not, seconds_is}
use Rattle.list_signs.proofs.marks.second_plus.Goals as goal

pub overflow_add-e : goal.overflow_add-e
overflow_add-e c = omega (arith, c.find-e.ensures, up_to_most 45 c.args.p.now)

pub returns-then-e-p : goal.returns-then-e-p
returns-then-e-p c = sym (seconds_none _ _ c.find-e.ensures c.if-e-p.true)

pub returns-then-p-e-ne-PLUS : goal.returns-then-p-e-ne-PLUS
returns-then-p-e-ne-PLUS c = sym (seconds_not _ _ c.find-e.ensures (ne_eqb _ _ c.if-p-e-ne-PLUS.true))

pub returns : goal.returns
returns c = c.is_range.ensures ∙ sym (seconds_is _ _ c.find-e.ensures (eq-eqb _ _ c.if-p-e-ne-PLUS.false))
