-- `fill::put_starts` meets its contract. The invariant of its loop: the starts of the first i code points are written. Assumes nothing.
use Rattle.lists.proofs.Kit.{◌≡◌, ◌+◌, arith}
use Rattle.row_table.proofs.Puts.{putting_none, putting_room, putting_nl, putting_on, putting_end}
use Rattle.row_table.proofs.fill.put_starts.Goals as goal
use Rattle.row_table.proofs.fill.put_starts.Goals.{then-x-eq10, else-x-eq10}

pub loop-i-init : goal.loop-i-init
loop-i-init c = putting_none _ _ _ _ c.requires.room

pub overflow_cast-starts : goal.overflow_cast-starts
overflow_cast-starts c = omega (arith, c.loop-i-test.true)

pub overflow_add-starts : goal.overflow_add-starts
overflow_add-starts c = omega (arith, putting_room c.loop-i.invariant c.loop-i-test.true c.if-x-eq10.true)

pub offset_bounds-starts-place : goal.offset_bounds-starts-place
offset_bounds-starts-place c = omega (arith, putting_room c.loop-i.invariant c.loop-i-test.true c.if-x-eq10.true)

pub bounds-starts-place : goal.bounds-starts-place
bounds-starts-place c = putting_room c.loop-i.invariant c.loop-i-test.true c.if-x-eq10.true

pub overflow_add-n : goal.overflow_add-n
overflow_add-n c = omega (arith, c.loop-i.invariant.few)

pub loop-i-preserved : goal.loop-i-preserved
loop-i-preserved c =
    let so_far = c.loop-i.invariant in
    elim c.if-x-eq10.branch [
      | then-x-eq10 w ↦
          let next : c.args.at + c.loop-i.i + 1 ≡ c.args.at + (c.loop-i.i + 1) = omega arith in
          rw (w.starts-is, w.n-is, next) (putting_nl so_far c.loop-i-test.true w.if-x-eq10.true)
      | else-x-eq10 w ↦ rw (w.starts-is, w.n-is) (putting_on so_far c.loop-i-test.true w.if-x-eq10.false)
    ]

pub shape_of-starts : goal.shape_of-starts
shape_of-starts c = c.loop-i.invariant.written.size

pub returns : goal.returns
returns c = putting_end c.loop-i.invariant c.loop-i-test.false
