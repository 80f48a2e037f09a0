-- `word_loops::walks::run` meets its contract. The invariant of its loop: the walk stands at `cur`, with turns enough for the places ahead.
-- The measure is the text's length less the offset. Assumes nothing.
use Rattle.lists.proofs.Kit.{◌-◌, arith}
use Rattle.word_kinds.proofs.Telling.{tells_as}
use Rattle.word_loops.specs.Walks.{goes_on}
use Rattle.word_loops.proofs.Walking.{walking_start, walking_on, walking_off, less_ahead}
use Rattle.word_loops.proofs.walks.run.Goals as goal

pub loop-q-init : goal.loop-q-init
loop-q-init c = walking_start c.requires.1 (omega arith)

pub kind_at-k-requires : goal.kind_at-k-requires
kind_at-k-requires c =
    (c.requires.0, (tells_as c.step_forward.ensures c.in-Some.is).inside.spot)

-- the next place is in the next row, or of another kind
pub returns-then-not-q-cur : goal.returns-then-not-q-cur
unfolding goes_on
returns-then-not-q-cur c =
    let found = tells_as c.step_forward.ensures c.in-Some.is in
    walking_off c.loop-q.invariant (rw (← found.place, ← c.kind_at-k.ensures) (c.if-not-q-cur.true))

pub loop-q-smaller : goal.loop-q-smaller
loop-q-smaller c =
    less_ahead _ c.step_forward.ensures c.in-Some.is

pub loop-q-preserved : goal.loop-q-preserved
unfolding goes_on
loop-q-preserved c =
    let told = c.step_forward.ensures in
    let found = c.in-Some.is in
    walking_on c.loop-q.invariant (rw (← (tells_as told found).place, ← c.kind_at-k.ensures) (c.if-not-q-cur.false))
    told found (less_ahead _ told found)

pub returns-in-None : goal.returns-in-None
unfolding goes_on
returns-in-None c =
    let found = tells_as c.step_forward.ensures c.in-None.is in
    walking_off c.loop-q.invariant (rw (← found.place))
