-- `moving::seek` meets its contract: what the call answers and leaves is compared. Assumes nothing.
use Rattle.replay_verdicts.proofs.Comparing.{replied_compared, places_count}
use Rattle.replay_tables.specs.Motions.{seek_of}
use Rattle.replay_tables.proofs.Sizes.{sought_sized}
use Rattle.replay_tables.proofs.moving.seek.Goals as goal

pub slice_bounds-compared-end : goal.slice_bounds-compared-end
slice_bounds-compared-end c = places_count 5 c.seek_rows-n.ensures (sought_sized _ _)

pub returns : goal.returns
unfolding seek_of
returns c = replied_compared 5 _ c.seek_rows-n.ensures c.compared.ensures
