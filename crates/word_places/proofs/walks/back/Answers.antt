-- `word_places::walks::back` meets its contract. The invariant of its loop: the walk stands at `cur`, with turns enough for the places behind.
-- The measure is the place. Assumes nothing.
use Rattle.lists.proofs.Kit.{sym, arith}
use Rattle.word_places.proofs.Walking.{walking_start, walking_on, walking_off, walking_stuck, backward_none, backward_on}
use Rattle.word_places.proofs.walks.back.Goals as goal

pub loop-big-init : goal.loop-big-init
loop-big-init c = walking_start _ _ _ _ _ (omega arith)

-- another kind, or an empty row
pub returns-then-not-soft-k : goal.returns-then-not-soft-k
returns-then-not-soft-k c =
    sym (walking_off c.loop-big.invariant (rw (← c.soft.ensures, ← c.class_at.ensures) (c.if-not-soft-k.true)))

-- the text's first place
pub returns-then-cur-eq0 : goal.returns-then-cur-eq0
returns-then-cur-eq0 c =
    sym (walking_stuck c.loop-big.invariant
    (rw (← c.soft.ensures, ← c.class_at.ensures) (c.if-not-soft-k.false)) (backward_none _ c.if-cur-eq0.true))

pub loop-big-preserved : goal.loop-big-preserved
loop-big-preserved c =
    walking_on c.loop-big.invariant _ _
    (rw (← c.soft.ensures, ← c.class_at.ensures) (c.if-not-soft-k.false)) (backward_on _ c.if-cur-eq0.false)
    (omega (arith, c.if-cur-eq0.false))
