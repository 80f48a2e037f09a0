-- `calls::word` meets its contract: what the call answers and leaves is compared. Assumes nothing.
use Rattle.replay.specs.Calls.{word_of}
use Rattle.replay_verdicts.proofs.Comparing.{replied_compared, places_count}
use Rattle.replay.proofs.Sizes.{moved_sized}
use Rattle.replay.proofs.calls.word.Goals as goal

pub slice_bounds-compared-end : goal.slice_bounds-compared-end
slice_bounds-compared-end c = places_count 4 c.word-n.ensures (moved_sized _)

pub returns : goal.returns
unfolding word_of
returns c = replied_compared 4 _ c.word-n.ensures c.compared.ensures
