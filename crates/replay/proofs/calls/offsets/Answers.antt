-- `calls::offsets` meets its contract: what the call answers and leaves is compared. Assumes nothing.
use Rattle.call_rows.specs.Wraps.{offset}
use Rattle.replay.specs.Calls.{offsets_of}
use Rattle.replay_verdicts.proofs.Comparing.{replied_compared, places_count, told_sized}
use Rattle.replay.proofs.calls.offsets.Goals as goal

pub slice_bounds-compared-end : goal.slice_bounds-compared-end
slice_bounds-compared-end c =
    let given = c.args in
    let given_k = given.k in
    places_count 1 c.offsets-n.ensures (told_sized (offset given_k.op given_k.a given_k.b given_k.c given.row.now))

pub returns : goal.returns
unfolding offsets_of
returns c = replied_compared 1 _ c.offsets-n.ensures c.compared.ensures
