-- `layout::any_torn` meets its contract. The invariant of its loop: the blocks that are left decide. Assumes nothing.
use Rattle.lists.proofs.Kit.{sym, ◌∙◌, arith}
use Rattle.fold_blocks.specs.Layout.{is_torn}
use Rattle.fold_blocks.proofs.Cuts.{any_next, any_end}
use Rattle.fold_reader.proofs.layout.any_torn.Goals as goal

pub returns-then-torn : goal.returns-then-torn
returns-then-torn c =
    let step = c.in-Some.ensures.steps in
    let invariant = c.loop-block.invariant in
    let here = any_next _ _ _ step.1.0 (step.1.1 ∙ invariant.full) is_torn in
    sym (invariant.same ∙ here ∙ rw (← c.torn.ensures, c.if-torn.true))

pub loop-block-preserved : goal.loop-block-preserved
loop-block-preserved c =
    let step = c.in-Some.ensures.steps in
    let invariant = c.loop-block.invariant in
    let here = any_next _ _ _ step.1.0 (step.1.1 ∙ invariant.full) is_torn in
    record { full = step.0 ∙ invariant.full; same = invariant.same ∙ here ∙ rw (← c.torn.ensures, c.if-torn.false) }

pub returns : goal.returns
returns c =
    let invariant = c.loop-block.invariant in
    sym (invariant.same ∙ any_end c.loop-block.block-iterator.rest.now (omega (arith, c.in-None.ensures.steps, invariant.full)) is_torn)
