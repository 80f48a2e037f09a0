-- `calls::character` meets its contract: what the call answers and leaves is compared. Assumes nothing.
use Rattle.call_rows.specs.Characters.{fact}
use Rattle.replay.specs.Calls.{character_of}
use Rattle.replay_verdicts.proofs.Comparing.{replied_compared, places_count, told_sized}
use Rattle.replay.proofs.calls.character.Goals as goal

pub slice_bounds-compared-end : goal.slice_bounds-compared-end
slice_bounds-compared-end c =
    let given_k = c.args.k in
    places_count 1 c.character-n.ensures (told_sized (fact given_k.op given_k.a))

pub returns : goal.returns
unfolding character_of
returns c = replied_compared 1 _ c.character-n.ensures c.compared.ensures
