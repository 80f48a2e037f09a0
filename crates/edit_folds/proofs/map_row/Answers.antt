use Rattle.lists.proofs.Kit.{le-leb, lt-leb}
use Rattle.edit_folds.specs.Folds.{mapped_row}
use Rattle.edit_folds.proofs.map_row.Goals as goal

pub returns-then-x-r1 : goal.returns-then-x-r1
unfolding mapped_row
returns-then-x-r1 c = rw (le-leb _ _ c.if-x-r1.true)

pub returns-then-x-r2 : goal.returns-then-x-r2
unfolding mapped_row
returns-then-x-r2 c = rw (lt-leb _ _ c.if-x-r1.false, le-leb _ _ c.if-x-r2.true)

pub returns : goal.returns
unfolding mapped_row
returns c = rw (lt-leb _ _ c.if-x-r1.false, lt-leb _ _ c.if-x-r2.false)
