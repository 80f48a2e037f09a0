-- `ranges::up_to_end` meets its contract. The invariant of its loop: the numbers before `low` are at most x, those from `high` on are
-- above it. The measure is what lies between. Assumes nothing.
use Rattle.lists.proofs.Kit.{◌≡◌, ◌+◌, ◌-◌, ◌/◌, arith}
use Rattle.ranges.proofs.Search.{search_up, search_down, search_found}
use Rattle.ranges.proofs.up_to_end.Goals as goal

pub loop-low-init : goal.loop-low-init
loop-low-init c =
    let far = c.requires.1 in
    record { order = omega arith; inside = far.inside; below = λ k h. absurd (omega (arith, h)); above = far.above }

-- the number in the middle is at most x: so are those before it
pub loop-low-preserved-then-table-mid : goal.loop-low-preserved-then-table-mid
loop-low-preserved-then-table-mid c =
    let at_loop = c.loop-low in
    search_up c.requires.0 at_loop.invariant (at_loop.low + (at_loop.high - at_loop.low) / 2) (omega arith) (omega arith)
    c.if-table-mid.true

-- it is above x: so are those after it
pub loop-low-preserved : goal.loop-low-preserved
loop-low-preserved c =
    let at_loop = c.loop-low in
    search_down c.requires.0 at_loop.invariant (at_loop.low + (at_loop.high - at_loop.low) / 2) (omega arith) (omega arith)
    c.if-table-mid.false

pub returns : goal.returns
returns c =
    let at_loop = c.loop-low in
    let high_is : at_loop.high ≡ at_loop.low = omega arith in
    search_found at_loop.low (rw high_is at at_loop.invariant)
