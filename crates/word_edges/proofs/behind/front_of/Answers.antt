-- `word_edges::behind::front_of` meets its contract: back over the class, and one on. Assumes nothing.
use Rattle.word_kinds.proofs.Telling.{tells_as}
use Rattle.word_edges.proofs.behind.front_of.Goals as goal

pub inc-requires : goal.inc-requires
inc-requires c = (tells_as c.back.ensures c.in-Onto.is).inside

pub returns-in-Some : goal.returns-in-Some
returns-in-Some c =
    let found = tells_as c.back.ensures c.in-Onto.is in
    let next = tells_as c.inc.ensures c.in-Some.is in
    record { place = rw (← c.cls-k.ensures, ← found.place, ← next.place); inside = next.inside.spot }

pub returns-in-None : goal.returns-in-None
returns-in-None c =
    let found = tells_as c.back.ensures c.in-Onto.is in
    let next = tells_as c.inc.ensures c.in-None.is in
    record { place = rw (← c.cls-k.ensures, ← found.place, ← next.place); inside = found.inside }

pub returns-in-Stuck : goal.returns-in-Stuck
returns-in-Stuck c =
    let found = tells_as c.back.ensures c.in-Stuck.is in
    record { place = rw (← c.cls-k.ensures, ← found.place); inside = found.inside }
