use Rattle.lists.proofs.Kit.{not-true, not-false}
use Rattle.word_kinds.proofs.Telling.{tells_as, tells_too}
use Rattle.word_edges.proofs.Starts.{ready_at}
use Rattle.word_edges.proofs.ahead.from_end.Goals as goal

pub returns-then-not-by : goal.returns-then-not-by
returns-then-not-by c =
    tells_too c.over_space.ensures (rw (c.if-not-by.true))

pub over_space-requires-in-Onto : goal.over_space-requires-in-Onto
over_space-requires-in-Onto c =
    ready_at c.requires _ (tells_as c.skip.ensures c.in-Onto.is).inside

pub returns-in-Onto : goal.returns-in-Onto
returns-in-Onto c =
    let found = tells_as c.skip.ensures c.in-Onto.is in
    tells_too c.over_space-in-Onto.ensures (rw (← found.place, c.if-not-by.false))

pub returns-in-Stuck : goal.returns-in-Stuck
returns-in-Stuck c =
    let found = tells_as c.skip.ensures c.in-Stuck.is in
    record { place = rw (← found.place, c.if-not-by.false); inside = tt }
