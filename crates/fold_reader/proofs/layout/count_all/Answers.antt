-- `layout::count_all` meets its contract. The invariant of its loop: what is counted, with the blocks that are left, comes to the whole. Assumes nothing.
use Rattle.lists.proofs.Kit.{ap, ◌∙◌, arith, length, length-append}
use Rattle.fold_blocks.proofs.Cuts.{count_next, count_end}
use Rattle.fold_reader.proofs.layout.count_all.Goals as goal

pub loop-block-preserved : goal.loop-block-preserved
loop-block-preserved c =
    let step = c.in-Some.ensures.steps in
    let invariant = c.loop-block.invariant in
    let left = c.next.new.self.rest.now in
    let parts = ap length step.1.0 ∙ length-append c.in-Some.block.now left in
    let here = count_next _ _ left step.1.0 (step.1.1 ∙ invariant.full) in
    record {
      full = step.0 ∙ invariant.full;
      small = omega (arith, c.two_at-n.ensures.small, parts, step.1.1, invariant.full, invariant.small);
      whole = omega (arith, here, c.two_at-n.ensures.same, invariant.whole);
    }

pub returns : goal.returns
returns c =
    let invariant = c.loop-block.invariant in
    omega (arith, invariant.whole, count_end c.loop-block.block-iterator.rest.now (omega (arith, c.in-None.ensures.steps, invariant.full)))
