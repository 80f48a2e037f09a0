-- `row_offsets::part_of` meets its contract: both ends are brought into the row. Assumes nothing.
use Rattle.row_offsets.proofs.Places.{part_is}
use Rattle.row_offsets.proofs.part_of.Goals as goal

pub returns : goal.returns
returns c = part_is _ _ _ c.min-to.ensures c.min-from.ensures
