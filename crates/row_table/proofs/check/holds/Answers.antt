-- `check::holds` meets its contract: starts that go on from 0 to as many as rows are the text's own. Assumes nothing.
use Rattle.lists.proofs.Kit.{sym, ◌∙◌, arith}
use Rattle.text.proofs.Rows.{rows_pos, start_zero}
use Rattle.row_table.proofs.Held.{held_no, table_place}
use Rattle.row_table.proofs.Ascend.{ascend_first, goes_held}
use Rattle.row_table.proofs.check.holds.Goals as goal

pub bounds-starts-0 : goal.bounds-starts-0
bounds-starts-0 c =
    omega (arith, c.requires.enough, c.requires.room, rows_pos c.args.t.now)

-- the first start isn't 0
pub returns-then-starts-ne0 : goal.returns-then-starts-ne0
returns-then-starts-ne0 c =
    let text_now = c.args.t.now in
    sym (held_no _ _ _ (λ q e. c.if-starts-ne0.true (table_place text_now c.args.starts.now e 0 (rows_pos text_now) ∙ start_zero text_now)))

pub go_on-requires : goal.go_on-requires
go_on-requires c =
    record {
      ascend = ascend_first c.args.t.now c.args.starts.now c.if-starts-ne0.false;
      order = omega (arith, c.requires.enough, rows_pos c.args.t.now);
      room = c.requires.room;
    }

pub returns : goal.returns
returns c =
    goes_held _ c.go_on.ensures c.requires.enough c.requires.room
