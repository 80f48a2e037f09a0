-- `moving::viewport` meets its contract: what the call answers and leaves is compared. Assumes nothing.
use Rattle.lists.proofs.Kit.{le-leb, lt-leb}
use Rattle.replay_verdicts.proofs.Comparing.{replied_compared, places_count}
use Rattle.replay_tables.specs.Motions.{viewport_verdict}
use Rattle.replay_tables.proofs.Sizes.{moved_sized}
use Rattle.replay_tables.proofs.moving.viewport.Goals as goal

pub returns-then-height-gt65535 : goal.returns-then-height-gt65535
unfolding viewport_verdict
returns-then-height-gt65535 c = rw (lt-leb _ 65535 c.if-height-gt65535.true)

pub slice_bounds-compared-end : goal.slice_bounds-compared-end
slice_bounds-compared-end c = places_count 4 c.viewport_rows-n.ensures (moved_sized _ _)

pub returns : goal.returns
unfolding viewport_verdict
returns c =
    rw (le-leb _ 65535 c.if-height-gt65535.false) (replied_compared 4 _ c.viewport_rows-n.ensures c.compared.ensures)
