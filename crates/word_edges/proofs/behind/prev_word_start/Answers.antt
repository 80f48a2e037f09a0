use Rattle.word_edges.specs.Words.{prev_word_start}
use Rattle.word_kinds.proofs.Telling.{tells_as, tells_too}
use Rattle.word_edges.proofs.Starts.{ready_at}
use Rattle.word_edges.proofs.behind.prev_word_start.Goals as goal

pub front_from-requires : goal.front_from-requires
front_from-requires c =
    ready_at c.requires _ (tells_as c.dec.ensures c.in-Some.is).inside.spot

pub returns-in-Some : goal.returns-in-Some
unfolding prev_word_start
returns-in-Some c =
    let found = tells_as c.dec.ensures c.in-Some.is in
    tells_too c.front_from.ensures (rw (← found.place))

pub returns-in-None : goal.returns-in-None
unfolding prev_word_start
returns-in-None c =
    let found = tells_as c.dec.ensures c.in-None.is in
    record { place = rw (← found.place); inside = tt }
