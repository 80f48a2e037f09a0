-- `text::offsets::walk_up` meets its contract. The invariant of its loop: b stands in row r, and `left` rows are still to go up.
-- Assumes nothing.
use Rattle.lists.proofs.Kit.{◌≡◌, ◌+◌, ◌-◌, sym, arith}
use Rattle.text.proofs.Rows.{start_zero}
use Rattle.text.proofs.Before.{on_first_lem}
use Rattle.text.proofs.Stands.{stands_at_lem, line_eq, back_char, back_nl}
use Rattle.text.proofs.offsets.walk_up.Goals as goal

pub returns-then-left-eq0 : goal.returns-then-left-eq0
returns-then-left-eq0 c =
    let one : c.loop-b.b - 1 + 1 ≡ c.loop-b.b = omega arith in
    rw one (line_eq c.args.t.now (back_nl c.loop-b.invariant.stands c.loop-b-test.true c.if-t-b-eq10.true).0 (omega arith))

pub overflow_sub-r : goal.overflow_sub-r
overflow_sub-r c =
    (back_nl c.loop-b.invariant.stands c.loop-b-test.true c.if-t-b-eq10.true).1

pub loop-b-preserved-then-t-b-eq10 : goal.loop-b-preserved-then-t-b-eq10
loop-b-preserved-then-t-b-eq10 c =
    let by_back_nl = back_nl c.loop-b.invariant.stands c.loop-b-test.true c.if-t-b-eq10.true in
    record { stands = by_back_nl.2; few = omega arith; gone_up = omega (arith, c.if-left-eq0.false) }

pub loop-b-preserved : goal.loop-b-preserved
loop-b-preserved c =
    record {
      stands = back_char c.loop-b.invariant.stands c.loop-b-test.true c.if-t-b-eq10.false;
      few = omega arith;
      gone_up = omega arith;
    }

pub returns : goal.returns
returns c =
    let text_now = c.args.t.now in
    line_eq text_now (sym (start_zero text_now)) (omega (arith, on_first_lem (stands_at_lem c.loop-b.invariant.stands) (omega arith)))
