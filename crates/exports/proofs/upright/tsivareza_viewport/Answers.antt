-- `tsivareza_viewport` meets its contract: the room is filled, and the call on code points answers. Assumes nothing.
use Rattle.call_texts.specs.Carets.{caret_of}
use Rattle.call_texts.specs.Viewports.{viewports}
use Rattle.call_bytes.proofs.Replies.{answered_one}
use Rattle.exports.proofs.Parts.{parts}
use Rattle.exports.proofs.upright.tsivareza_viewport.Goals as goal

-- the call on code points answers
pub returns : goal.returns
returns c =
    let given = c.args in
    answered_one c.fill-f.ensures
    (viewports given.op given.top given.height given.offset (caret_of given.row given.col given.held given.sticky))
    c.if-f-ne0.false c.viewport.ensures

pub returns-then-f-ne0 : goal.returns-then-f-ne0
returns-then-f-ne0 c = search parts

pub slice_bounds-viewport-end : goal.slice_bounds-viewport-end
slice_bounds-viewport-end c = search parts

pub slice_bounds-viewport-end-2 : goal.slice_bounds-viewport-end-2
slice_bounds-viewport-end-2 c = search parts
