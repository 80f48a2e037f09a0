-- `tsivareza_segment_for_col` meets its contract: the room is filled, and the call on code points answers. Assumes nothing.
use Rattle.call_rows.specs.Wraps.{segment_of}
use Rattle.call_bytes.proofs.Replies.{answered_one}
use Rattle.exports.proofs.Parts.{parts}
use Rattle.exports.proofs.wraps.tsivareza_segment_for_col.Goals as goal

-- the call on code points answers
pub returns : goal.returns
returns c =
    let given = c.args in
    answered_one c.fill-f.ensures (segment_of given.col) c.if-f-ne0.false c.segment_for_col.ensures

pub returns-then-f-ne0 : goal.returns-then-f-ne0
returns-then-f-ne0 c = search parts

pub slice_bounds-segment_for_col-end : goal.slice_bounds-segment_for_col-end
slice_bounds-segment_for_col-end c = search parts

pub slice_bounds-segment_for_col-end-2 : goal.slice_bounds-segment_for_col-end-2
slice_bounds-segment_for_col-end-2 c = search parts
