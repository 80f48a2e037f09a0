use Rattle.visible_rows.proofs.rows.shifted.Goals as goal

pub returns-then-down : goal.returns-then-down
returns-then-down c = rw c.if-down.true

pub returns-else-down : goal.returns-else-down
returns-else-down c = rw c.if-down.false c.saturating_sub.ensures
