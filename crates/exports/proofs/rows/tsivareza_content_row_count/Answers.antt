-- `tsivareza_content_row_count` meets its contract: the room is filled, and the call on code points answers. Assumes nothing.
use Rattle.call_texts.specs.Rows.{row_count}
use Rattle.call_bytes.proofs.Replies.{answered_one}
use Rattle.exports.proofs.Parts.{parts}
use Rattle.exports.proofs.rows.tsivareza_content_row_count.Goals as goal

-- the call on code points answers
pub returns : goal.returns
returns c =
    answered_one c.fill-f.ensures row_count c.if-f-ne0.false c.content_row_count.ensures

pub returns-then-f-ne0 : goal.returns-then-f-ne0
returns-then-f-ne0 c = search parts

pub slice_bounds-content_row_count-end : goal.slice_bounds-content_row_count-end
slice_bounds-content_row_count-end c = search parts

pub slice_bounds-content_row_count-end-2 : goal.slice_bounds-content_row_count-end-2
slice_bounds-content_row_count-end-2 c = search parts
