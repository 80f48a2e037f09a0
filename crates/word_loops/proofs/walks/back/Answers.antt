-- `word_loops::walks::back` meets its contract. The invariant of its loop: the walk stands at `cur`, with turns enough for the places before it.
-- The measure is the offset. Assumes nothing.
use Rattle.word_loops.proofs.Walking.{walking_start, walking_on, walking_off, walking_stuck, less_behind}
use Rattle.word_loops.proofs.walks.back.Goals as goal

pub loop-cur-init : goal.loop-cur-init
loop-cur-init c =
    let spot = c.requires.1 in
    walking_start spot spot.within

-- the place is of another class, or on an empty row
pub returns-then-not-k-class : goal.returns-then-not-k-class
returns-then-not-k-class c =
    walking_off c.loop-cur.invariant (rw (← c.cls-k.ensures, ← c.on_empty_row.ensures) (c.if-not-k-class.true))

pub loop-cur-smaller : goal.loop-cur-smaller
loop-cur-smaller c = less_behind c.dec.ensures c.in-Some.is

pub loop-cur-preserved : goal.loop-cur-preserved
loop-cur-preserved c =
    let told = c.dec.ensures in
    let found = c.in-Some.is in
    walking_on c.loop-cur.invariant (rw (← c.cls-k.ensures, ← c.on_empty_row.ensures) (c.if-not-k-class.false))
    told found (less_behind told found)

pub returns-in-None : goal.returns-in-None
returns-in-None c =
    walking_stuck c.loop-cur.invariant (rw (← c.cls-k.ensures, ← c.on_empty_row.ensures) (c.if-not-k-class.false))
    c.dec.ensures c.in-None.is
