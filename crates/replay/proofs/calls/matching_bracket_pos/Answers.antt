-- `calls::matching_bracket_pos` meets its contract: what the call answers and leaves is compared. Assumes nothing.
use Rattle.replay.specs.Calls.{matching_bracket_pos_of}
use Rattle.replay_verdicts.proofs.Comparing.{replied_compared, places_count}
use Rattle.replay.proofs.Sizes.{partnered_sized}
use Rattle.replay.proofs.calls.matching_bracket_pos.Goals as goal

pub slice_bounds-compared-end : goal.slice_bounds-compared-end
slice_bounds-compared-end c = places_count 3 c.matching_bracket_pos-n.ensures (partnered_sized _)

pub returns : goal.returns
unfolding matching_bracket_pos_of
returns c = replied_compared 3 _ c.matching_bracket_pos-n.ensures c.compared.ensures
