-- `word_places::walks::over` meets its contract. The invariant of its loop: the walk stands at `cur`, with turns enough for the places ahead.
-- The measure is the length of the slice less the place. Assumes nothing.
use Rattle.lists.proofs.Kit.{sym, ◌∙◌, ◌-◌, arith}
use Rattle.word_places.proofs.Walking.{walking_start, walking_on, walking_off, walking_stuck, forward_on}
use Rattle.word_places.proofs.walks.over.Goals as goal

pub loop-big-init : goal.loop-big-init
loop-big-init c = walking_start _ _ _ _ _ (omega arith)

-- the place is of neither kind
pub returns-then-not-k-a : goal.returns-then-not-k-a
returns-then-not-k-a c = sym (walking_off c.loop-big.invariant (rw (← c.kind-k.ensures) (c.if-not-k-a.true)))

pub loop-big-smaller : goal.loop-big-smaller
loop-big-smaller c =
    let on = forward_on _ _ c.in-Some.j (sym c.forward.ensures ∙ c.in-Some.is) in
    omega (arith, on.0, on.1)

pub loop-big-preserved : goal.loop-big-preserved
loop-big-preserved c =
    let on = forward_on _ _ c.in-Some.j (sym c.forward.ensures ∙ c.in-Some.is) in
    walking_on c.loop-big.invariant _ _ (rw (← c.kind-k.ensures) (c.if-not-k-a.false))
    (sym c.forward.ensures ∙ c.in-Some.is) (omega (arith, on.0, on.1))

pub returns-in-None : goal.returns-in-None
returns-in-None c =
    sym (walking_stuck c.loop-big.invariant (rw (← c.kind-k.ensures) (c.if-not-k-a.false))
    (sym c.forward.ensures ∙ c.in-None.is))
