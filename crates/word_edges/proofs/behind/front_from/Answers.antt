-- `word_edges::behind::front_from` meets its contract: an empty row is a word of its own. Assumes nothing.
use Rattle.lists.proofs.Kit.{sym, ◌∙◌}
use Rattle.word_kinds.proofs.Telling.{tells_as, tells_too}
use Rattle.word_edges.proofs.Starts.{ready_at}
use Rattle.word_edges.proofs.behind.front_from.Goals as goal

pub on_empty_row-requires : goal.on_empty_row-requires
on_empty_row-requires c = (tells_as c.back.ensures c.in-Onto.is).inside

pub returns-then-on_empty_row : goal.returns-then-on_empty_row
returns-then-on_empty_row c =
    let found = tells_as c.back.ensures c.in-Onto.is in
    record { place = rw (← found.place, sym c.on_empty_row.ensures ∙ c.if-on_empty_row.true); inside = found.inside }

pub front_of-requires : goal.front_of-requires
front_of-requires c =
    ready_at c.requires _ (tells_as c.back.ensures c.in-Onto.is).inside

pub returns-else-on_empty_row : goal.returns-else-on_empty_row
returns-else-on_empty_row c =
    let found = tells_as c.back.ensures c.in-Onto.is in
    tells_too c.front_of.ensures (rw (← found.place, sym c.on_empty_row.ensures ∙ c.if-on_empty_row.false))

pub returns-in-Stuck : goal.returns-in-Stuck
returns-in-Stuck c =
    let found = tells_as c.back.ensures c.in-Stuck.is in
    record { place = rw (← found.place); inside = found.inside }
