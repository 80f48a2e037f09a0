-- `gaps::close_up` meets its contract. The invariant of its loop: the first k of the part are moved. The measure is the part's length less k.
-- A read stands behind what is written, since a + k ≤ b + k. Assumes nothing.
use Rattle.lists.proofs.Kit.{sym, ◌∙◌, ◌+◌, ◌-◌, arith, length-slice}
use Rattle.edit_places.proofs.Puts.{up_none, up_next, up_all, up_read, part_read}
use Rattle.edit_places.proofs.gaps.close_up.Goals as goal

pub loop-k-init : goal.loop-k-init
loop-k-init c =
    let given = c.args in
    let by_length_slice = length-slice given.b given.len (given.buf).now (omega arith) in
    record { within = omega arith; up = up_none _ _ _ (omega arith) }

pub loop-k-preserved : goal.loop-k-preserved
loop-k-preserved c =
    let at_loop = c.loop-k in
    let given = c.args in
    let by_length_slice = length-slice given.b given.len (given.buf).now (omega arith) in
    let read = up_read (at_loop.invariant).up (given.b + at_loop.k) (omega arith) in
    let same = read ∙ sym (part_read (given.buf).now given.len given.b at_loop.k (omega arith)) in
    record { within = omega arith; up = up_next (at_loop.invariant).up (omega arith) same }

pub returns : goal.returns
returns c =
    let given = c.args in
    let by_length_slice = length-slice given.b given.len (given.buf).now (omega arith) in
    up_all c.loop-k.invariant.up (omega arith)
