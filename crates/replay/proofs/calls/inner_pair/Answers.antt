-- `calls::inner_pair` meets its contract: what the call answers and leaves is compared. Assumes nothing.
use Rattle.replay.specs.Calls.{inner_pair_of}
use Rattle.replay_verdicts.proofs.Comparing.{replied_compared, places_count}
use Rattle.replay.proofs.Sizes.{surrounded_sized}
use Rattle.replay.proofs.calls.inner_pair.Goals as goal

pub slice_bounds-compared-end : goal.slice_bounds-compared-end
slice_bounds-compared-end c = places_count 9 c.inner_pair-n.ensures (surrounded_sized _)

pub returns : goal.returns
unfolding inner_pair_of
returns c = replied_compared 9 _ c.inner_pair-n.ensures c.compared.ensures
