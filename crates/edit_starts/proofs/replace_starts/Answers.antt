-- `replace_starts` meets its contract: fewer starts are written first and the rest closed up, more are written into a gap. Assumes nothing.
use Rattle.lists.proofs.Kit.{arith}
use Rattle.edit_places.proofs.Replaces.{refilled_shorter, refilled_longer}
use Rattle.row_table.specs.Table.{starts_from}
use Rattle.row_table.proofs.Starts.{starts_length}
use Rattle.edit_starts.proofs.replace_starts.Goals as goal

pub returns-then-n-y : goal.returns-then-n-y
returns-then-n-y c =
    let given = c.args in
    let by_starts_length = starts_length given.at given.points.now in
    let separators_told = c.separators-n.ensures.count in
    refilled_shorter given.starts.now given.rows given.x given.y (starts_from given.at given.points.now) (omega arith) (omega arith) (omega arith)
    c.put_starts.ensures c.close_gap.ensures (omega arith) (omega arith)

pub returns : goal.returns
returns c =
    let given = c.args in
    let by_starts_length = starts_length given.at given.points.now in
    let separators_told = c.separators-n.ensures.count in
    refilled_longer given.starts.now given.rows given.x given.y (starts_from given.at given.points.now) (omega arith) (omega arith) (omega arith)
    c.open_gap.ensures c.put_starts-2.ensures (omega arith) (omega arith) (omega arith)
