use Rattle.visible_rows.proofs.rows.visible_row.Goals as goal

pub returns-then-down : goal.returns-then-down
returns-then-down c = rw c.if-down.true c.next_visible_row.ensures

pub returns : goal.returns
returns c = rw c.if-down.false c.prev_visible_row.ensures
