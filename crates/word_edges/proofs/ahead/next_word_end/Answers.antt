use Rattle.word_edges.specs.Words.{next_word_end}
use Rattle.word_kinds.proofs.Telling.{tells_as, tells_too}
use Rattle.word_edges.proofs.Starts.{ready_at}
use Rattle.word_edges.proofs.ahead.next_word_end.Goals as goal

pub run_from-requires : goal.run_from-requires
run_from-requires c =
    ready_at c.requires _ (tells_as c.step_forward.ensures c.in-Some.is).inside.spot

pub returns-in-Some : goal.returns-in-Some
unfolding next_word_end
returns-in-Some c =
    let found = tells_as c.step_forward.ensures c.in-Some.is in
    tells_too c.run_from.ensures (rw (← found.place))

pub returns-in-None : goal.returns-in-None
unfolding next_word_end
returns-in-None c =
    let found = tells_as c.step_forward.ensures c.in-None.is in
    record { place = rw (← found.place); inside = tt }
