use Rattle.word_kinds.proofs.Telling.{tells_as, tells_too, lands_reaches}
use Rattle.word_edges.proofs.ahead.over_space.Goals as goal

pub returns-in-Onto : goal.returns-in-Onto
returns-in-Onto c =
    let found = tells_as c.skip.ensures c.in-Onto.is in
    record { place = rw (← found.place); inside = found.inside }

pub returns-in-Stuck : goal.returns-in-Stuck
returns-in-Stuck c =
    let found = tells_as c.skip.ensures c.in-Stuck.is in
    tells_too (lands_reaches c.end_of_buffer.ensures) (rw (← found.place))
