-- `fill::put_rows` meets its contract: the first row's start, and then those behind the separators. Assumes nothing.
use Rattle.lists.proofs.Kit.{arith, length-set}
use Rattle.text.proofs.Rows.{rows_pos}
use Rattle.row_table.proofs.Puts.{put_all}
use Rattle.row_table.proofs.fill.put_rows.Goals as goal

pub bounds-starts-0 : goal.bounds-starts-0
bounds-starts-0 c = omega (arith, rows_pos c.args.t.now)

pub put_starts-requires : goal.put_starts-requires
put_starts-requires c =
    let given = c.args in
    record { room = omega (arith, length-set given.starts.now 0 0); short = omega arith }

pub shape_of-starts : goal.shape_of-starts
shape_of-starts c =
    let given = c.args in
    omega (arith, length-set given.starts.now 0 0, c.put_starts.ensures.size)

pub returns : goal.returns
returns c =
    let given = c.args in
    put_all given.t.now (omega (arith, rows_pos given.t.now)) c.put_starts.ensures
