-- `list_signs::marks::is_range` meets its contract: the numbers on both sides of the first `-`. Assumes nothing.
use Rattle.lists.proofs.Kit.{sym, ◌∙◌, arith, length-take-le}
use Rattle.list_signs.proofs.RangeLaws.{no_range, both_range}
use Rattle.list_signs.proofs.marks.is_range.Goals as goal

pub returns-then-d-p : goal.returns-then-d-p
returns-then-d-p c = sym (no_range _ _ c.find-d.ensures c.if-d-p.true)

pub slice_bounds-is_number-end : goal.slice_bounds-is_number-end
slice_bounds-is_number-end c = sym (length-take-le c.find-d.result c.args.p.now (omega arith))

-- the first is no number
pub returns-then-not-is_number : goal.returns-then-not-is_number
returns-then-not-is_number c =
    let first = sym c.is_number.ensures ∙ c.if-not-is_number.true in
    sym (both_range c.args.p.now c.find-d.result c.find-d.ensures (omega arith) ∙ rw first)

pub returns : goal.returns
returns c =
    let first = sym c.is_number.ensures ∙ c.if-not-is_number.false in
    sym (both_range c.args.p.now c.find-d.result c.find-d.ensures (omega arith) ∙ rw (first, ← c.is_number-2.ensures))
