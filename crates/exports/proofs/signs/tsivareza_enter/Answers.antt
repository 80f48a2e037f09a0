-- `tsivareza_enter` meets its contract: the room is filled, and the call on code points answers. Assumes nothing.
use Rattle.lists.proofs.Kit.{List, ℕ}
use Rattle.call_signs.specs.Entry.{placed_reply, entering}
use Rattle.call_bytes.proofs.Replies.{answered_one}
use Rattle.exports.proofs.Parts.{parts}
use Rattle.exports.proofs.signs.tsivareza_enter.Goals as goal

-- the call on code points answers
pub returns : goal.returns
returns c =
    let given = c.args in
    answered_one c.fill-f.ensures (λ (t : List ℕ). placed_reply (entering given.op given.x t)) c.if-f-ne0.false
    c.enter.ensures

pub returns-then-f-ne0 : goal.returns-then-f-ne0
returns-then-f-ne0 c = search parts

pub slice_bounds-enter-end : goal.slice_bounds-enter-end
slice_bounds-enter-end c = search parts

pub slice_bounds-enter-end-2 : goal.slice_bounds-enter-end-2
slice_bounds-enter-end-2 c = search parts
