-- `tsivareza_motion` meets its contract: the room is filled, and the call on code points answers. Assumes nothing.
use Rattle.call_texts.specs.Carets.{caret_of}
use Rattle.call_texts.specs.Moves.{motions}
use Rattle.call_bytes.proofs.Replies.{answered_one}
use Rattle.exports.proofs.Parts.{parts}
use Rattle.exports.proofs.moves.tsivareza_motion.Goals as goal

-- the call on code points answers
pub returns : goal.returns
returns c =
    let given = c.args in
    answered_one c.fill-f.ensures
    (motions given.op given.count (caret_of given.row given.col given.held given.sticky)) c.if-f-ne0.false c.motion.ensures

pub returns-then-f-ne0 : goal.returns-then-f-ne0
returns-then-f-ne0 c = search parts

pub slice_bounds-motion-end : goal.slice_bounds-motion-end
slice_bounds-motion-end c = search parts

pub slice_bounds-motion-end-2 : goal.slice_bounds-motion-end-2
slice_bounds-motion-end-2 c = search parts
