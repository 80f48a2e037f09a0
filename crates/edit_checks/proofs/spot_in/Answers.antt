-- `edit_checks::spot_in` meets its contract: the position's row, and then its column. Assumes nothing.
use Rattle.lists.proofs.Kit.{arith}
use Rattle.text.proofs.Stands.{line_there}
use Rattle.edit_checks.proofs.Spots.{spot_row, spot_col, spot_there, long}
use Rattle.edit_checks.proofs.spot_in.Goals as goal

pub returns-then-p-rows : goal.returns-then-p-rows
returns-then-p-rows c =
    spot_row c.args.t.now c.args.p (omega (arith, c.requires.rows_are, c.if-p-rows.true))

pub row_len-n-requires : goal.row_len-n-requires
row_len-n-requires c =
    line_there c.args.t.now c.line_from-l.result _ c.line_from-l.ensures (omega (arith, c.requires.rows_are, c.if-p-rows.false))

pub returns-then-p-n : goal.returns-then-p-n
returns-then-p-n c =
    let text_now = c.args.t.now in
    let given_p = c.args.p in
    let by_long = long text_now given_p c.line_from-l.result _ c.line_from-l.ensures c.row_len-n.ensures in
    spot_col text_now given_p (omega (arith, c.requires.rows_are, c.if-p-rows.false)) (omega (arith, by_long, c.if-p-n.true))

pub returns : goal.returns
returns c =
    let text_now = c.args.t.now in
    let given_p = c.args.p in
    let by_long = long text_now given_p c.line_from-l.result _ c.line_from-l.ensures c.row_len-n.ensures in
    spot_there text_now given_p c.line_from-l.result c.line_from-l.ensures (omega (arith, c.requires.rows_are, c.if-p-rows.false))
    (omega (arith, by_long, c.if-p-n.false))
