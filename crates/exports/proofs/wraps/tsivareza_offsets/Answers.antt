-- `tsivareza_offsets` meets its contract: the room is filled, and the call on code points answers. Assumes nothing.
use Rattle.call_rows.specs.Wraps.{offsets}
use Rattle.call_bytes.proofs.Replies.{answered_one}
use Rattle.exports.proofs.Parts.{parts}
use Rattle.exports.proofs.wraps.tsivareza_offsets.Goals as goal

-- the call on code points answers
pub returns : goal.returns
returns c =
    let given = c.args in
    answered_one c.fill-f.ensures (offsets given.op given.start given.end given.at) c.if-f-ne0.false
    c.offsets.ensures

pub returns-then-f-ne0 : goal.returns-then-f-ne0
returns-then-f-ne0 c = search parts

pub slice_bounds-offsets-end : goal.slice_bounds-offsets-end
slice_bounds-offsets-end c = search parts

pub slice_bounds-offsets-end-2 : goal.slice_bounds-offsets-end-2
slice_bounds-offsets-end-2 c = search parts
