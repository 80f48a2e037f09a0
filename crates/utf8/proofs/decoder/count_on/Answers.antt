-- `decoder::count_on` meets its contract. The invariant of its loop: the code points before i are counted. The measure is what is left up to
-- `until`. Assumes nothing.
use Rattle.lists.proofs.Kit.{arith}
use Rattle.std.proofs.lemmas.Result.{err_from_is_err_and}
use Rattle.utf8.proofs.Counted.{stepped_good, stepped_bad, counts_on, counts_bad}
use Rattle.utf8.proofs.decoder.count_on.Goals as goal

pub loop-i-smaller : goal.loop-i-smaller
loop-i-smaller c =
    let by_stepped_good = stepped_good _ _ _ c.step.ensures c.in_ok-next.was in
    omega (arith, by_stepped_good.1)

-- a sequence more
pub loop-i-preserved : goal.loop-i-preserved
loop-i-preserved c =
    let by_stepped_good = stepped_good _ _ _ c.step.ensures c.in_ok-next.was in
    counts_on c.loop-i.invariant _ _ by_stepped_good.0 by_stepped_good.1 by_stepped_good.2

-- the place
pub returns-in_err-next : goal.returns-in_err-next
returns-in_err-next c =
    let by_stepped_bad = stepped_bad _ _ _ c.step.ensures c.in_err-next.was in
    let by_from = err_from_is_err_and c.from_residual.result c.from_residual.ensures.1 in
    rw (by_from.1, by_from.2) (counts_bad c.loop-i.invariant by_stepped_bad)
