-- `layout::broken` meets its contract. The invariant of its loop: the blocks that are left decide. Assumes nothing.
use Rattle.lists.proofs.Kit.{ap, sym, ◌∙◌, arith, length, length-append}
use Rattle.fold_blocks.proofs.Cuts.{broken_next, broken_end}
use Rattle.fold_reader.proofs.layout.broken.Goals as goal

pub returns-then-breaks : goal.returns-then-breaks
returns-then-breaks c =
    let step = c.in-Some.ensures.steps in
    let invariant = c.loop-k.invariant in
    let here = broken_next _ _ _ step.0.1.0 (step.0.1.1 ∙ invariant.full) _ c.count_all-n.result _ in
    sym (invariant.same ∙ here ∙ rw (← step.1, ← c.breaks.ensures, c.if-breaks.true))

pub loop-k-preserved : goal.loop-k-preserved
loop-k-preserved c =
    let step = c.in-Some.ensures.steps in
    let invariant = c.loop-k.invariant in
    let left = c.next.new.self.iter.rest.now in
    let parts = ap length step.0.1.0 ∙ length-append c.in-Some.block.now left in
    let here = broken_next _ _ left step.0.1.0 (step.0.1.1 ∙ invariant.full) _ c.count_all-n.result _ in
    record {
      full = step.0.0 ∙ invariant.full;
      few = omega (arith, invariant.few, parts, step.0.1.1, invariant.full, step.2);
      same = invariant.same ∙ here ∙ rw (← step.1, ← c.breaks.ensures, c.if-breaks.false, step.2, step.1);
    }

pub returns : goal.returns
returns c =
    let invariant = c.loop-k.invariant in
    sym (invariant.same ∙ broken_end c.loop-k.k-iterator.iter.rest.now (omega (arith, c.in-None.ensures.steps, invariant.full)) _ _ _)
