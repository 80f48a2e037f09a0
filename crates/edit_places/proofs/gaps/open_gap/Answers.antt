-- `gaps::open_gap` meets its contract. The invariant of its loop: all but the first k of the part are moved. The measure is k.
-- A read stands before what is written: with k the new one, a + k < a + m + (k + 1). Assumes nothing.
use Rattle.lists.proofs.Kit.{sym, ◌∙◌, ◌+◌, ◌-◌, arith, length-slice}
use Rattle.edit_places.proofs.Puts.{down_none, down_next, down_all, down_read, part_read}
use Rattle.edit_places.proofs.gaps.open_gap.Goals as goal

pub loop-k-init : goal.loop-k-init
loop-k-init c =
    let given = c.args in
    let by_length_slice = length-slice given.a given.len (given.buf).now (omega arith) in
    record { within = omega arith; down = down_none _ _ _ _ (sym by_length_slice) (omega arith) }

pub loop-k-preserved : goal.loop-k-preserved
loop-k-preserved c =
    let at_loop = c.loop-k in
    let given = c.args in
    let read = down_read (at_loop.invariant).down (given.a + (at_loop.k - 1)) (omega arith) in
    let same = read ∙ sym (part_read (given.buf).now given.len given.a (at_loop.k - 1) (omega arith)) in
    record { within = omega arith; down = down_next (at_loop.invariant).down (omega arith) same }

pub returns : goal.returns
returns c = down_all c.loop-k.invariant.down c.loop-k-test.false
