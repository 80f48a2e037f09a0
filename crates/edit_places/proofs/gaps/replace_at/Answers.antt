-- `gaps::replace_at` meets its contract: a shorter text is written first and the rest closed up, a longer one is written into a gap.
-- Assumes nothing.
use Rattle.lists.proofs.Kit.{arith}
use Rattle.edit_places.proofs.Replaces.{refilled_shorter, refilled_longer}
use Rattle.edit_places.proofs.gaps.replace_at.Goals as goal

pub returns-then-m-b : goal.returns-then-m-b
returns-then-m-b c =
    let given = c.args in
    refilled_shorter (given.buf).now given.len given.a given.b (given.points).now (omega arith) (omega arith) (omega arith) c.put_at.ensures
    c.close_gap.ensures (omega arith) (omega arith)

pub returns : goal.returns
returns c =
    let given = c.args in
    refilled_longer (given.buf).now given.len given.a given.b (given.points).now (omega arith) (omega arith) (omega arith) c.open_gap.ensures
    c.put_at-2.ensures (omega arith) (omega arith) (omega arith)
