use Rattle.word_kinds.proofs.Telling.{tells_as, tells_too}
use Rattle.word_edges.proofs.Starts.{ready_at}
use Rattle.word_edges.proofs.ahead.run_from.Goals as goal

pub run_end-requires : goal.run_end-requires
run_end-requires c =
    ready_at c.requires _ (tells_as c.skip.ensures c.in-Onto.is).inside

pub returns-in-Onto : goal.returns-in-Onto
returns-in-Onto c =
    let found = tells_as c.skip.ensures c.in-Onto.is in
    tells_too c.run_end.ensures (rw (← found.place))

pub returns-in-Stuck : goal.returns-in-Stuck
returns-in-Stuck c =
    let found = tells_as c.skip.ensures c.in-Stuck.is in
    record { place = rw (← found.place); inside = found.inside }
