-- `calls::vertical` meets its contract: what the call answers and leaves is compared. Assumes nothing.
use Rattle.lists.proofs.Kit.{le-leb, lt-leb}
use Rattle.replay.specs.Calls.{vertical_verdict}
use Rattle.replay_verdicts.proofs.Comparing.{replied_compared, places_count}
use Rattle.replay.proofs.Sizes.{moved_sized}
use Rattle.replay.proofs.calls.vertical.Goals as goal

pub returns-then-width-gt65535 : goal.returns-then-width-gt65535
unfolding vertical_verdict
returns-then-width-gt65535 c = rw (lt-leb _ 65535 c.if-width-gt65535.true)

pub slice_bounds-compared-end : goal.slice_bounds-compared-end
slice_bounds-compared-end c = places_count 4 c.vertical-n.ensures (moved_sized _)

pub returns : goal.returns
unfolding vertical_verdict
returns c =
    rw (le-leb _ 65535 c.if-width-gt65535.false) (replied_compared 4 _ c.vertical-n.ensures c.compared.ensures)
