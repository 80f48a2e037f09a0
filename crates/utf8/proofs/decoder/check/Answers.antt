-- `decoder::check` meets its contract. The invariant of its loop: the code points before i are counted. The measure is the length less i.
-- Assumes nothing.
use Rattle.lists.proofs.Kit.{sym, ◌∙◌, arith, not-true}
use Rattle.std.proofs.lemmas.Result.{err_from_is_err_and}
use Rattle.utf8.proofs.Counted.{walked_on, walked_bad, counts_start, counts_to, counts_end}
use Rattle.utf8.proofs.decoder.check.Goals as goal

pub loop-i-init : goal.loop-i-init
loop-i-init c = counts_start _

-- a stretch of ASCII
pub loop-i-preserved-then-plain : goal.loop-i-preserved-then-plain
loop-i-preserved-then-plain c =
    let found = c.stretch-until.ensures in
    counts_to _ c.loop-i.invariant (omega (arith, found.onward)) found.inside (not-true _ (sym c.plain.ensures ∙ c.if-plain.true))

-- any other
pub loop-i-smaller : goal.loop-i-smaller
loop-i-smaller c =
    let on = walked_on _ _ c.count_on.ensures c.in_ok-s.was in
    omega (arith, on.1, c.stretch-until.ensures.onward)

pub loop-i-preserved : goal.loop-i-preserved
loop-i-preserved c = (walked_on _ _ c.count_on.ensures c.in_ok-s.was).0

pub returns-in_err-s : goal.returns-in_err-s
returns-in_err-s c =
    let by_from = err_from_is_err_and c.from_residual.result c.from_residual.ensures.1 in
    rw (by_from.1, by_from.2) (sym (walked_bad _ _ c.count_on.ensures c.in_err-s.was))

pub returns : goal.returns
returns c = sym (counts_end c.loop-i.invariant c.loop-i-test.false)
