-- `decoder::write_on` meets its contract. The invariant of its loop: the code points before i are written. The measure is what is left up to
-- `until`. Assumes nothing.
use Rattle.lists.proofs.Kit.{arith}
use Rattle.utf8.proofs.Counted.{stepped_good}
use Rattle.utf8.proofs.Written.{going_start, going_wrote, going_room, going_on_lem, going_ok}
use Rattle.utf8.proofs.decoder.write_on.Goals as goal

pub loop-i-init : goal.loop-i-init
loop-i-init c = going_start c.requires.holds

-- none is bad
pub unwrap-next-requires : goal.unwrap-next-requires
unwrap-next-requires c = going_ok c.loop-i.invariant _ c.step.ensures

pub bounds-points-n : goal.bounds-points-n
bounds-points-n c =
    let by_stepped_good = stepped_good _ _ _ c.step.ensures c.unwrap-next.ensures in
    going_room c.loop-i.invariant _ _ by_stepped_good.0

pub overflow_add-n : goal.overflow_add-n
overflow_add-n c =
    let by_stepped_good = stepped_good _ _ _ c.step.ensures c.unwrap-next.ensures in
    let there = going_room c.loop-i.invariant _ _ by_stepped_good.0 in
    omega arith

pub loop-i-smaller : goal.loop-i-smaller
loop-i-smaller c =
    let by_stepped_good = stepped_good _ _ _ c.step.ensures c.unwrap-next.ensures in
    omega (arith, by_stepped_good.1)

-- a sequence more
pub loop-i-preserved : goal.loop-i-preserved
loop-i-preserved c =
    let by_stepped_good = stepped_good _ _ _ c.step.ensures c.unwrap-next.ensures in
    going_on_lem c.loop-i.invariant _ _ by_stepped_good.0 by_stepped_good.2

pub returns : goal.returns
returns c = going_wrote c.loop-i.invariant c.loop-i-test.false

pub shape_of-points : goal.shape_of-points
shape_of-points c = c.loop-i.invariant.size
