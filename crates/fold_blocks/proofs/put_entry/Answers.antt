-- `put_entry` meets its contract: one piece after another. Assumes nothing.
use Rattle.print.proofs.Laws.{wrote_then}
use Rattle.fold_blocks.proofs.put_entry.Goals as goal

pub returns : goal.returns
returns c =
    rw (c.to_le_bytes.ensures, c.to_le_bytes-2.ensures) at
    (wrote_then c.put_bytes-middle.ensures (wrote_then c.put_bytes-last.ensures c.put.ensures))
