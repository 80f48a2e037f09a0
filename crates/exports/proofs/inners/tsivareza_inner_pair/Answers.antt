-- `tsivareza_inner_pair` meets its contract: the room is filled, and the call on code points answers. Assumes nothing.
use Rattle.call_texts.specs.Inners.{inner}
use Rattle.call_bytes.proofs.Replies.{answered_one}
use Rattle.exports.proofs.Parts.{parts}
use Rattle.exports.proofs.inners.tsivareza_inner_pair.Goals as goal

-- the call on code points answers
pub returns : goal.returns
returns c =
    let given = c.args in
    answered_one c.fill-f.ensures (inner given.kind given.row given.col) c.if-f-ne0.false c.inner_pair.ensures

pub returns-then-f-ne0 : goal.returns-then-f-ne0
returns-then-f-ne0 c = search parts

pub slice_bounds-inner_pair-end : goal.slice_bounds-inner_pair-end
slice_bounds-inner_pair-end c = search parts

pub slice_bounds-inner_pair-end-2 : goal.slice_bounds-inner_pair-end-2
slice_bounds-inner_pair-end-2 c = search parts
