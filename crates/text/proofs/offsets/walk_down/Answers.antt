-- `text::offsets::walk_down` meets its contract. The invariant of its loop: i stands in row r, which lies above row `to`. Assumes nothing.
use Rattle.lists.proofs.Kit.{arith}
use Rattle.text.proofs.At.{on_last}
use Rattle.text.proofs.Stands.{stands_at_lem, stands_own, reached_row, reached_end, step_char, step_nl}
use Rattle.text.proofs.offsets.walk_down.Goals as goal
use Rattle.text.proofs.offsets.walk_down.Goals.{then-t-i-eq10+else-r-to, else-t-i-eq10}

pub returns-then-r-to : goal.returns-then-r-to
returns-then-r-to c =
    let at_row = step_nl c.loop-i.invariant.stands c.loop-i-test.true c.if-t-i-eq10.true in
    reached_row c.args.t.now at_row.begins c.if-r-to.true at_row.in_row

pub loop-i-preserved : goal.loop-i-preserved
loop-i-preserved c =
    let invariant = c.loop-i.invariant in
    elim c.if-t-i-eq10.branch [
      | then-t-i-eq10+else-r-to w ↦ rw w.r-is (record {
        stands = stands_own (step_nl invariant.stands c.loop-i-test.true w.if-t-i-eq10.true);
        above = omega (arith, w.if-r-to.false);
      })
      | else-t-i-eq10 w ↦
          rw w.r-is (record { stands = step_char invariant.stands c.loop-i-test.true w.if-t-i-eq10.false; above = invariant.above })
    ]

-- the text ends before row `to`
pub returns : goal.returns
returns c =
    let at_loop = c.loop-i in
    reached_end c.args.t.now at_loop.invariant.above (on_last (stands_at_lem at_loop.invariant.stands) c.loop-i-test.false)
