-- `session_row::digits` meets its contract. The invariant of its loop: n is the value of the digits before the index i, below ten to the i.
-- Assumes nothing.
use Rattle.lists.proofs.Kit.{sym, ◌∙◌, arith}
use Rattle.session_row.proofs.Laws.{digits_on, digits_low, digits_high, digits_end, digits_most, digits_fit, digits_of_lem, digits_none, digits_many}
use Rattle.session_row.proofs.digits.Goals as goal

pub returns-then-s-eq0 : goal.returns-then-s-eq0
returns-then-s-eq0 c = sym (digits_none _ c.if-s-eq0.true)

pub returns-then-s-gt9 : goal.returns-then-s-gt9
returns-then-s-gt9 c = sym (digits_many _ c.if-s-gt9.true)

-- a byte below the digits, or above them
pub returns-then-b-lt48 : goal.returns-then-b-lt48
returns-then-b-lt48 c =
    let at_loop = c.loop-b in
    sym (digits_of_lem _ (omega arith) (omega arith) ∙ at_loop.invariant.rest ∙ digits_low _ at_loop.n at_loop.b-index c.loop-b-test.true c.if-b-lt48.true)

pub returns-then-b-gt57 : goal.returns-then-b-gt57
returns-then-b-gt57 c =
    let at_loop = c.loop-b in
    sym (digits_of_lem _ (omega arith) (omega arith) ∙ at_loop.invariant.rest
    ∙ digits_high _ at_loop.n at_loop.b-index c.loop-b-test.true c.if-b-lt48.false c.if-b-gt57.true)

-- nine digits fit
pub overflow_mul-n : goal.overflow_mul-n
overflow_mul-n c =
    let at_loop = c.loop-b in
    omega (arith, digits_fit at_loop.n at_loop.b-index at_loop.invariant.small (omega arith))

pub loop-b-preserved : goal.loop-b-preserved
loop-b-preserved c =
    let at_loop = c.loop-b in
    record {
      small = digits_most at_loop.n at_loop.b-index _ at_loop.invariant.small c.if-b-gt57.false;
      rest = at_loop.invariant.rest
          ∙ digits_on _ at_loop.n at_loop.b-index c.loop-b-test.true c.if-b-lt48.false c.if-b-gt57.false;
    }

pub returns : goal.returns
returns c =
    let at_loop = c.loop-b in
    sym (digits_of_lem _ (omega arith) (omega arith) ∙ at_loop.invariant.rest ∙ digits_end _ at_loop.n at_loop.b-index c.loop-b-test.false)
