-- `list_signs::marks::leads_plus` meets its contract: the tests of the definition in their order. Assumes nothing.
use Rattle.lists.proofs.Kit.{sym, ◌∙◌, rules, eq-eqb, ne_eqb}
use Rattle.list_signs.proofs.RangeLaws.{leads_none}
use Rattle.list_signs.proofs.marks.leads_plus.Goals as goal

pub returns-then-is_range : goal.returns-then-is_range
returns-then-is_range c = rw (eq-eqb _ _ c.if-p-ne-PLUS.false, sym c.is_range.ensures ∙ c.if-is_range.true)

pub returns : goal.returns
returns c =
    rw (eq-eqb _ _ c.if-p-ne-PLUS.false, sym c.is_range.ensures ∙ c.if-is_range.false) c.is_number.ensures

pub returns-then-p-eq0 : goal.returns-then-p-eq0
returns-then-p-eq0 c = search (rules, leads_none)

pub returns-then-p-ne-PLUS : goal.returns-then-p-ne-PLUS
returns-then-p-ne-PLUS c = search (rules, ne_eqb)
