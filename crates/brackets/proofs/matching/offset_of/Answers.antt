-- `brackets::matching::offset_of` meets its contract. The invariant of its loop: i stands in the row, `left` columns before the one sought.
-- Assumes nothing.
use Rattle.lists.proofs.Kit.{arith}
use Rattle.text.proofs.Stands.{step_char}
use Rattle.brackets.proofs.Columns.{column_at_lem, column_nl, column_end}
use Rattle.brackets.proofs.matching.offset_of.Goals as goal

-- the row ends at a separator
pub returns-then-t-i-eq10 : goal.returns-then-t-i-eq10
returns-then-t-i-eq10 c =
    let invariant = c.loop-i.invariant in
    column_nl invariant.stands _ _ invariant.away c.loop-i-test.true c.if-t-i-eq10.true

-- the column
pub returns-then-left-eq0 : goal.returns-then-left-eq0
returns-then-left-eq0 c =
    let invariant = c.loop-i.invariant in
    column_at_lem invariant.stands _ _ invariant.away c.loop-i-test.true c.if-t-i-eq10.false c.if-left-eq0.true

pub loop-i-preserved : goal.loop-i-preserved
loop-i-preserved c =
    let invariant = c.loop-i.invariant in
    record {
      stands = step_char invariant.stands c.loop-i-test.true c.if-t-i-eq10.false;
      away = omega (arith, invariant.away, c.if-left-eq0.false);
    }

-- or with the text
pub returns : goal.returns
returns c = let invariant = c.loop-i.invariant in column_end invariant.stands _ _ invariant.away c.loop-i-test.false
