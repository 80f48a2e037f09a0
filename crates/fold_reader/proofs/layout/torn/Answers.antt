-- `layout::torn` meets its contract: the sum stored against the sum of the first 510 bytes. Assumes nothing.
use Rattle.lists.proofs.Kit.{sym, arith, length-take, length-take-le}
use Rattle.fold_blocks.specs.Layout.{is_torn}
use Rattle.fold_reader.proofs.layout.torn.Goals as goal

pub returns : goal.returns
unfolding is_torn
returns c = rw (c.two_at.ensures.same, c.sum.ensures)

pub slice_bounds-sum-end : goal.slice_bounds-sum-end
slice_bounds-sum-end c = sym (length-take-le 510 c.args.block.now (omega (arith, c.requires)))

pub sum-requires : goal.sum-requires
sum-requires c = omega (arith, length-take 510 c.args.block.now)
