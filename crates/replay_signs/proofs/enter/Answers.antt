-- `enter` meets its contract: what the call answers and leaves is compared. Assumes nothing.
use Rattle.call_signs.specs.Entry.{entering}
use Rattle.replay_verdicts.proofs.Comparing.{places_count}
use Rattle.replay_signs.proofs.Entering.{placed_sized, entered_compared}
use Rattle.replay_signs.proofs.enter.Goals as goal

pub slice_bounds-compared_two-end : goal.slice_bounds-compared_two-end
slice_bounds-compared_two-end c =
    let given = c.args in
    let given_k = given.k in
    places_count 1 c.enter-told.ensures (placed_sized (entering given_k.op given_k.a given.list.now))

pub returns : goal.returns
returns c =
    let given = c.args in
    entered_compared given.k given.list.now given.stored.now c.enter-told.ensures c.compared_two.ensures
