use Rattle.lists.proofs.Kit.{eq-eqb, ne_eqb}
use Rattle.word_edges.specs.Words.{prev_word_end}
use Rattle.word_kinds.proofs.Telling.{tells_as, tells_too}
use Rattle.word_edges.proofs.Starts.{ready_at}
use Rattle.word_edges.proofs.behind.prev_word_end.Goals as goal

pub back_over_space-requires : goal.back_over_space-requires
back_over_space-requires c =
    ready_at c.requires _ (tells_as c.dec.ensures c.in-Some.is).inside.spot

pub returns-then-k-eq-SPACE : goal.returns-then-k-eq-SPACE
unfolding prev_word_end
returns-then-k-eq-SPACE c =
    let found = tells_as c.dec.ensures c.in-Some.is in
    tells_too c.back_over_space.ensures (rw (← found.place, ← c.cls-k.ensures, eq-eqb _ _ c.if-k-eq-SPACE.true))

pub end_from-requires : goal.end_from-requires
end_from-requires c =
    ready_at c.requires _ (tells_as c.dec.ensures c.in-Some.is).inside.spot

pub returns-else-k-eq-SPACE : goal.returns-else-k-eq-SPACE
unfolding prev_word_end
returns-else-k-eq-SPACE c =
    let found = tells_as c.dec.ensures c.in-Some.is in
    tells_too c.end_from.ensures (rw (← found.place, ← c.cls-k.ensures, ne_eqb _ _ c.if-k-eq-SPACE.false))

pub returns-in-None : goal.returns-in-None
unfolding prev_word_end
returns-in-None c =
    let found = tells_as c.dec.ensures c.in-None.is in
    record { place = rw (← found.place); inside = tt }
