-- `widths::width` meets its contract, setting by setting. Assumes nothing.
use Rattle.widths.specs.Widths.{width_as}
use Rattle.widths.proofs.width.Goals as goal

pub returns-in-Narrow : goal.returns-in-Narrow
unfolding width_as
returns-in-Narrow c = rw c.in-Narrow.is c.width.ensures

pub returns-in-Wide : goal.returns-in-Wide
unfolding width_as
returns-in-Wide c = rw c.in-Wide.is c.wide_width.ensures
