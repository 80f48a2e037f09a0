-- `tables::by_parts` meets its contract: by the operation. Assumes nothing.
use Rattle.lists.proofs.Kit.{lt-ltb, le-ltb}
use Rattle.replay_tables.specs.Verdicts.{parts_verdict}
use Rattle.replay_tables.proofs.tables.by_parts.Goals as goal

pub returns-then-k-lt3 : goal.returns-then-k-lt3
unfolding parts_verdict
returns-then-k-lt3 c = rw (lt-ltb _ 3 c.if-k-lt3.true) c.edit.ensures

pub returns : goal.returns
unfolding parts_verdict
returns c = rw (le-ltb _ 3 c.if-k-lt3.false) c.moved.ensures
