-- `keywords::letters_of` meets its contract. The invariant of its loop: no token before the index holds every letter. Assumes nothing.
use Rattle.lists.proofs.Kit.{◌+◌, arith, eqb, eq-eqb, ne_eqb}
use Rattle.lists.proofs.Decides.{decides_stop, decides_on, decides_end}
use Rattle.keywords.proofs.TableLaws.{any_here, any_past}
use Rattle.keywords.proofs.flat.letters_of.Goals as goal

pub returns-then-t-eq1 : goal.returns-then-t-eq1
returns-then-t-eq1 c =
    let at_loop = c.loop-t in
    decides_stop at_loop.invariant (at_loop.t-index + 1) (any_here (λ t. eqb t.kind 1) _ at_loop.t-index c.loop-t-test.true)
    (eq-eqb _ _ c.if-t-eq1.true)

pub loop-t-preserved : goal.loop-t-preserved
loop-t-preserved c =
    let at_loop = c.loop-t in
    decides_on at_loop.invariant (at_loop.t-index + 1) (any_here (λ t. eqb t.kind 1) _ at_loop.t-index c.loop-t-test.true)
    (omega arith) (ne_eqb _ _ c.if-t-eq1.false)

pub returns : goal.returns
returns c =
    let at_loop = c.loop-t in
    decides_end at_loop.invariant (any_past (λ t. eqb t.kind 1) _ at_loop.t-index c.loop-t-test.false)
