use Rattle.word_kinds.proofs.Telling.{tells_as}
use Rattle.word_edges.proofs.ahead.run_end.Goals as goal

pub returns-in-Onto : goal.returns-in-Onto
returns-in-Onto c =
    let found = tells_as c.run.ensures c.in-Onto.is in
    record { place = rw (← c.kind_at-k.ensures, ← found.place); inside = found.inside }

pub returns-in-Stuck : goal.returns-in-Stuck
returns-in-Stuck c =
    let found = tells_as c.run.ensures c.in-Stuck.is in
    record { place = rw (← c.kind_at-k.ensures, ← found.place); inside = found.inside }
