-- `visible_rows::rows::clear_of` meets its contract: a fold that is open or lies behind hides nothing, one ahead nothing before its first hidden row.
-- Assumes nothing.
use Rattle.lists.proofs.Kit.{arith}
use Rattle.visible_rows.proofs.Free.{clear_open, clear_behind, clear_ahead, clear_behind_up, clear_ahead_up}
use Rattle.visible_rows.proofs.rows.clear_of.Goals as goal

pub returns-then-closed-ne1 : goal.returns-then-closed-ne1
returns-then-closed-ne1 c = clear_open c.if-closed-ne1.true

pub returns-then-e-row : goal.returns-then-e-row
returns-then-e-row c = clear_behind c.if-down.true c.if-e-row.true

pub returns-then-down : goal.returns-then-down
returns-then-down c = clear_ahead c.if-down.true (omega arith)

pub returns-then-row-s : goal.returns-then-row-s
returns-then-row-s c = clear_behind_up c.if-down.false c.if-row-s.true

pub returns : goal.returns
returns c = clear_ahead_up c.if-down.false (omega arith)
