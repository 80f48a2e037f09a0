-- `list_parts::numbers::read_number` meets its contract: what stands after a `+`, or the whole part, is read as digits. Assumes nothing.
use Rattle.lists.proofs.Kit.{◌∙◌, arith}
use Rattle.list_parts.proofs.NumberLaws.{number_none, number_plus, number_plain}
use Rattle.list_parts.proofs.numbers.read_number.Goals as goal

pub returns-then-p-eq0 : goal.returns-then-p-eq0
returns-then-p-eq0 c = number_none c.args.p.now c.if-p-eq0.true

pub returns-then-p-eq-PLUS : goal.returns-then-p-eq-PLUS
returns-then-p-eq-PLUS c =
    c.digits.ensures ∙ number_plus c.args.p.now (omega arith) c.if-p-eq-PLUS.true

pub returns : goal.returns
returns c = c.digits-2.ensures ∙ number_plain c.args.p.now (omega arith) c.if-p-eq-PLUS.false
