use Rattle.screen_segments.proofs.ahead_of.Goals as goal

pub returns-then-down : goal.returns-then-down
returns-then-down c = rw c.if-down.true

pub returns-else-down : goal.returns-else-down
returns-else-down c = rw c.if-down.false
