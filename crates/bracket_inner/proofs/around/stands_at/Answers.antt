-- `stands_at` meets its contract: past the text nothing stands. Assumes nothing.
use Rattle.lists.proofs.Kit.{lt-ltb, le-ltb}
use Rattle.bracket_inner.proofs.around.stands_at.Goals as goal

pub returns-then-at-t : goal.returns-then-at-t
returns-then-at-t c = rw (le-ltb _ _ c.if-at-t.true)

pub returns : goal.returns
returns c = rw (lt-ltb _ _ c.if-at-t.false)
