-- `word_edges::behind::back_over_space` meets its contract: where the walk ended. Assumes nothing.
use Rattle.word_kinds.proofs.Telling.{tells_as}
use Rattle.word_edges.proofs.behind.back_over_space.Goals as goal

pub returns-in-Onto : goal.returns-in-Onto
returns-in-Onto c =
    let found = tells_as c.back.ensures c.in-Onto.is in
    record { place = rw (← found.place); inside = found.inside }

pub returns-in-Stuck : goal.returns-in-Stuck
returns-in-Stuck c =
    let found = tells_as c.back.ensures c.in-Stuck.is in
    record { place = rw (← found.place); inside = found.inside }
