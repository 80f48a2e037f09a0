-- `list_parts::numbers::digits` meets its contract. The invariant of its loop: the digits before i have the value `sum`, which is below 2^32,
-- and reading on from them gives the number. Assumes nothing.
use Rattle.lists.proofs.Kit.{sym, ◌∙◌, arith, rules}
use Rattle.list_parts.proofs.NumberLaws.{digits_none, digits_some, number_below, number_above, number_too_large, number_digit, number_end}
use Rattle.list_parts.proofs.numbers.digits.Goals as goal

pub returns-then-p-eq0 : goal.returns-then-p-eq0
returns-then-p-eq0 c = digits_none c.args.p.now c.if-p-eq0.true

pub loop-x-init : goal.loop-x-init
loop-x-init c = record { within = search rules; small = search rules; rest = digits_some c.args.p.now (omega arith) }

-- below 0
pub returns-then-x-lt-ZERO : goal.returns-then-x-lt-ZERO
returns-then-x-lt-ZERO c =
    let at_loop = c.loop-x in
    number_below c.args.p.now at_loop.x-index at_loop.sum c.loop-x-test.true c.if-x-lt-ZERO.true
    ∙ sym (at_loop.invariant).rest

-- above 9
pub returns-then-x-gt-NINE : goal.returns-then-x-gt-NINE
returns-then-x-gt-NINE c =
    let at_loop = c.loop-x in
    number_above c.args.p.now at_loop.x-index at_loop.sum c.loop-x-test.true c.if-x-gt-NINE.true ∙ sym (at_loop.invariant).rest

-- too large, and it stays so
pub returns-then-sum-gt4294967295 : goal.returns-then-sum-gt4294967295
returns-then-sum-gt4294967295 c =
    let at_loop = c.loop-x in
    number_too_large _ _ c.if-sum-gt4294967295.true ∙ sym ((at_loop.invariant).rest ∙ number_digit c.args.p.now at_loop.x-index at_loop.sum (omega arith)
    c.if-x-lt-ZERO.false c.if-x-gt-NINE.false)

-- one digit more
pub loop-x-preserved : goal.loop-x-preserved
loop-x-preserved c =
    let at_loop = c.loop-x in
    record {
      within = omega arith;
      small = c.if-sum-gt4294967295.false;
      rest = (at_loop.invariant).rest ∙ number_digit c.args.p.now at_loop.x-index at_loop.sum (omega arith) c.if-x-lt-ZERO.false
          c.if-x-gt-NINE.false;
    }

pub returns : goal.returns
returns c =
    let at_loop = c.loop-x in
    number_end c.args.p.now at_loop.x-index at_loop.sum c.loop-x-test.false (at_loop.invariant).small ∙ sym (at_loop.invariant).rest
