-- `entries::take_entry` meets its contract: three numbers, one after another. Assumes nothing.
use Rattle.print.proofs.Laws.{wrote_then}
use Rattle.fold_reader.proofs.entries.take_entry.Goals as goal

pub returns : goal.returns
returns c =
    rw (← c.four_at-start.ensures, ← c.four_at-end.ensures, ← c.one_at-closed.ensures)
    (wrote_then (wrote_then c.put-second.ensures c.put-third.ensures) c.put.ensures)
