-- `ranges::in_table` meets its contract: a number lies in a range where the bounds up to it are odd in number. Assumes nothing.
use Rattle.ranges.proofs.Bounds.{up_to_odd}
use Rattle.ranges.proofs.in_table.Goals as goal

pub returns : goal.returns
returns c = up_to_odd c.up_to.result c.up_to.ensures
