-- `list_tokens::tokens::range_of` meets its contract: the numbers on both sides of the first `-`. Assumes nothing.
use Rattle.lists.proofs.Kit.{refl, sym, ◌∙◌, arith, length-take-le, rules, Some, None}
use Rattle.list_tokens.proofs.TokenLaws.{range_none, range_is}
use Rattle.list_tokens.proofs.tokens.range_of.Goals as goal

pub returns-then-d-p : goal.returns-then-d-p
returns-then-d-p c = range_none _ _ c.find-d.ensures c.if-d-p.true

pub slice_bounds-read_number-end : goal.slice_bounds-read_number-end
slice_bounds-read_number-end c = sym (length-take-le c.find-d.result c.args.p.now (omega arith))

-- two numbers
pub returns-in-Some-read_number : goal.returns-in-Some-read_number
returns-in-Some-read_number c =
    c.range.ensures ∙ range_is c.args.p.now c.find-d.result c.find-d.ensures (omega arith) (Some c.in-Some.lo)
    (Some c.in-Some-read_number.hi) (sym c.in-Some.is ∙ c.read_number.ensures)
    (sym c.in-Some-read_number.is ∙ c.read_number-in-Some.ensures)

-- only the first is a number
pub returns-in-None-read_number : goal.returns-in-None-read_number
returns-in-None-read_number c =
    range_is c.args.p.now c.find-d.result c.find-d.ensures (omega arith) (Some c.in-Some.lo) None
    (sym c.in-Some.is ∙ c.read_number.ensures) (sym c.in-None-read_number.is ∙ c.read_number-in-Some.ensures)

-- the first is none
pub returns-in-None : goal.returns-in-None
returns-in-None c =
    range_is c.args.p.now c.find-d.result c.find-d.ensures (omega arith) None _
    (sym c.in-None.is ∙ c.read_number.ensures)
    refl
