-- `sum` meets its contract. The invariant of its loop: what is added, with what is left, comes to the whole. Assumes nothing.
use Rattle.lists.proofs.Kit.{arith}
use Rattle.fold_blocks.proofs.Numbers.{sum_at, sum_end}
use Rattle.fold_blocks.proofs.sum.Goals as goal

pub loop-x-preserved : goal.loop-x-preserved
loop-x-preserved c =
    let next = sum_at c.args.bytes.now c.loop-x.x-index c.loop-x-test.true in
    record {
      within = omega arith;
      small = omega arith;
      whole = omega (arith, next, c.loop-x.invariant.whole);
    }

pub returns : goal.returns
returns c = omega (arith, c.loop-x.invariant.whole, sum_end c.args.bytes.now c.loop-x.x-index c.loop-x-test.false)
