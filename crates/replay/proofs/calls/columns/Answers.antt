-- `calls::columns` meets its contract: what the call answers and leaves is compared. Assumes nothing.
use Rattle.call_rows.specs.Tabs.{tab_column}
use Rattle.replay.specs.Calls.{columns_of}
use Rattle.replay_verdicts.proofs.Comparing.{replied_compared, places_count, told_sized}
use Rattle.replay.proofs.calls.columns.Goals as goal

pub slice_bounds-compared-end : goal.slice_bounds-compared-end
slice_bounds-compared-end c =
    let given = c.args in
    let given_k = given.k in
    places_count 1 c.columns-n.ensures (told_sized (tab_column given_k.op given_k.a given_k.b given.row.now))

pub returns : goal.returns
unfolding columns_of
returns c = replied_compared 1 _ c.columns-n.ensures c.compared.ensures
