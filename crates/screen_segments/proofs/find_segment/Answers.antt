-- `screen_segments::find_segment` meets its contract. The invariant of its loop: k segments are passed, none of them the one looked for.
-- The measure is the row's length less the start of the next. Assumes nothing.
use Rattle.lists.proofs.Kit.{◌-◌, arith}
use Rattle.screen_segments.proofs.Finding.{seek_start, seek_void, seek_on, found_index, found_col, found_last}
use Rattle.screen_segments.proofs.find_segment.Goals as goal

pub loop-start-init : goal.loop-start-init
loop-start-init c = seek_start _ _ _ _ _ _

pub returns-then-k-index : goal.returns-then-k-index
returns-then-k-index c =
    record {
      part = found_index c.requires.wide c.loop-start.invariant c.loop-start-test.true
          c.first_segment.ensures.count c.if-k-index.true;
      inside = omega (arith, c.loop-start.invariant.few);
    }

pub returns-then-col-end : goal.returns-then-col-end
returns-then-col-end c =
    record {
      part = found_col c.requires.wide c.loop-start.invariant c.loop-start-test.true
          c.first_segment.ensures.count c.if-col-end.true;
      inside = omega (arith, c.loop-start.invariant.few);
    }

pub returns-then-end-row : goal.returns-then-end-row
returns-then-end-row c =
    record {
      part = found_last c.requires.wide c.loop-start.invariant c.loop-start-test.true
          c.first_segment.ensures.count c.if-end-row.true (omega (arith, c.if-col-end.false));
      inside = omega (arith, c.loop-start.invariant.few);
    }

pub loop-start-preserved : goal.loop-start-preserved
loop-start-preserved c =
    seek_on c.requires.wide c.loop-start.invariant c.loop-start-test.true c.first_segment.ensures.count
    c.if-k-index.false (omega (arith, c.if-col-end.false)) c.if-end-row.false

-- the row is empty
pub returns : goal.returns
returns c = record { part = seek_void c.loop-start.invariant (omega arith); inside = omega arith }
