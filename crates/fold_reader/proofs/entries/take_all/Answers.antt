-- `entries::take_all` meets its contract. The invariant of its loop: the folds of the blocks that are left are still to be taken. Assumes nothing.
use Rattle.lists.proofs.Kit.{arith}
use Rattle.fold_reader.proofs.Takes.{taking_few, taking_room, taking_on, taking_end}
use Rattle.fold_reader.proofs.entries.take_all.Goals as goal

pub take_entries-next-requires : goal.take_entries-next-requires
take_entries-next-requires c =
    let step = c.in-Some.ensures.steps in
    let invariant = c.loop-block.invariant in
    let count = c.two_at-count.ensures.same in
    record {
      there = omega (arith, count, taking_few invariant _ _ step.1.0 step.1.1, step.1.1, invariant.full);
      room = omega (arith, count, taking_room invariant _ _ step.1.0 step.1.1 c.requires.room);
    }

pub loop-block-preserved : goal.loop-block-preserved
loop-block-preserved c =
    let step = c.in-Some.ensures.steps in
    taking_on c.loop-block.invariant _ _ step.1.0 step.1.1 step.0 _ c.two_at-count.ensures.same c.take_entries-next.ensures

pub returns : goal.returns
returns c = taking_end c.loop-block.invariant c.in-None.ensures.steps.1.0
