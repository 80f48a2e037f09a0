-- `word_loops::walks::leave` meets its contract. The invariant of its loop: the walk stands at `cur`, with turns enough for the places ahead.
-- The measure is the text's length less the offset. Assumes nothing.
use Rattle.lists.proofs.Kit.{◌-◌, arith}
use Rattle.word_loops.proofs.Walking.{walking_start, walking_on, walking_off, walking_stuck, less_ahead}
use Rattle.word_loops.proofs.walks.leave.Goals as goal

pub loop-cur-init : goal.loop-cur-init
loop-cur-init c = walking_start c.requires.1 (omega arith)

-- the place is of another kind, or in the next row
pub returns-then-not-k-kind : goal.returns-then-not-k-kind
returns-then-not-k-kind c =
    walking_off c.loop-cur.invariant (rw (← c.kind_at-k.ensures) (c.if-not-k-kind.true))

pub loop-cur-smaller : goal.loop-cur-smaller
loop-cur-smaller c = less_ahead _ c.step_forward.ensures c.in-Some.is

pub loop-cur-preserved : goal.loop-cur-preserved
loop-cur-preserved c =
    let told = c.step_forward.ensures in
    let found = c.in-Some.is in
    walking_on c.loop-cur.invariant (rw (← c.kind_at-k.ensures) (c.if-not-k-kind.false)) told found (less_ahead _ told found)

pub returns-in-None : goal.returns-in-None
returns-in-None c =
    walking_stuck c.loop-cur.invariant (rw (← c.kind_at-k.ensures) (c.if-not-k-kind.false))
    c.step_forward.ensures c.in-None.is
