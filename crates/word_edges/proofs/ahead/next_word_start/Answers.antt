-- `word_edges::ahead::next_word_start` meets its contract: off the row's end, or off the word, and then over white space. Assumes nothing.
use Rattle.lists.proofs.Kit.{eq-eqb, ne_eqb}
use Rattle.word_edges.specs.Words.{next_word_start}
use Rattle.word_kinds.proofs.Telling.{tells_as, tells_too, lands_reaches}
use Rattle.word_edges.proofs.Starts.{ready_at}
use Rattle.word_edges.proofs.ahead.next_word_start.Goals as goal

pub from_end-requires : goal.from_end-requires
from_end-requires c =
    ready_at c.requires _ (tells_as c.step_forward.ensures c.in-Some.is).inside.spot

pub returns-in-Some : goal.returns-in-Some
unfolding next_word_start
returns-in-Some c =
    let found = tells_as c.step_forward.ensures c.in-Some.is in
    tells_too c.from_end.ensures (rw (← c.kind_at-k.ensures, eq-eqb _ _ c.if-k-eq-END.true, ← found.place))

pub returns-in-None : goal.returns-in-None
unfolding next_word_start
returns-in-None c =
    let found = tells_as c.step_forward.ensures c.in-None.is in
    record { place = rw (← c.kind_at-k.ensures, eq-eqb _ _ c.if-k-eq-END.true, ← found.place); inside = tt }

pub over_space-requires : goal.over_space-requires
over_space-requires c =
    ready_at c.requires _ (tells_as c.leave.ensures c.in-Onto.is).inside

pub returns-in-Onto : goal.returns-in-Onto
unfolding next_word_start
returns-in-Onto c =
    let found = tells_as c.leave.ensures c.in-Onto.is in
    tells_too c.over_space.ensures (rw (← c.kind_at-k.ensures, ne_eqb _ _ c.if-k-eq-END.false, ← found.place))

pub returns-in-Stuck : goal.returns-in-Stuck
unfolding next_word_start
returns-in-Stuck c =
    let found = tells_as c.leave.ensures c.in-Stuck.is in
    tells_too (lands_reaches c.end_of_buffer.ensures) (rw (← c.kind_at-k.ensures, ne_eqb _ _ c.if-k-eq-END.false, ← found.place))
