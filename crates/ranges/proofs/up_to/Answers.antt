-- `ranges::up_to` meets its contract: x is below the third number, and so below all after it, or the whole table is searched.
-- Assumes nothing.
use Rattle.lists.proofs.Kit.{arith}
use Rattle.ranges.proofs.Ascending.{ascending_le}
use Rattle.ranges.proofs.up_to.Goals as goal

pub up_to_end-requires : goal.up_to_end-requires
up_to_end-requires c = (
  c.requires,
  record {
    inside = omega arith;
    above = λ k from inside. omega (arith, ascending_le c.args.table.now c.requires 2 k from inside, c.if-x-table.true);
  },
)
