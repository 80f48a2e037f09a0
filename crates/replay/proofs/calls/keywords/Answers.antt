-- `calls::keywords` meets its contract: what the call answers and leaves is compared. Assumes nothing.
use Rattle.call_rows.specs.Lists.{keyword}
use Rattle.replay.specs.Calls.{keywords_of}
use Rattle.replay_verdicts.proofs.Comparing.{replied_compared, places_count, told_sized}
use Rattle.replay.proofs.calls.keywords.Goals as goal

pub slice_bounds-compared-end : goal.slice_bounds-compared-end
slice_bounds-compared-end c =
    let given = c.args in
    let given_k = given.k in
    places_count 1 c.keywords-n.ensures (told_sized (keyword given_k.op given_k.a given.list.now))

pub returns : goal.returns
unfolding keywords_of
returns c = replied_compared 1 _ c.keywords-n.ensures c.compared.ensures
