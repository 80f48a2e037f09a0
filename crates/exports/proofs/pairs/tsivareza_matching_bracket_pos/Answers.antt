-- `tsivareza_matching_bracket_pos` meets its contract: the room is filled, and the call on code points answers. Assumes nothing.
use Rattle.call_texts.specs.Partners.{partner}
use Rattle.call_bytes.proofs.Replies.{answered_one}
use Rattle.exports.proofs.Parts.{parts}
use Rattle.exports.proofs.pairs.tsivareza_matching_bracket_pos.Goals as goal

-- the call on code points answers
pub returns : goal.returns
returns c =
    let given = c.args in
    answered_one c.fill-f.ensures (partner given.row given.col) c.if-f-ne0.false c.matching_bracket_pos.ensures

pub returns-then-f-ne0 : goal.returns-then-f-ne0
returns-then-f-ne0 c = search parts

pub slice_bounds-matching_bracket_pos-end : goal.slice_bounds-matching_bracket_pos-end
slice_bounds-matching_bracket_pos-end c = search parts

pub slice_bounds-matching_bracket_pos-end-2 : goal.slice_bounds-matching_bracket_pos-end-2
slice_bounds-matching_bracket_pos-end-2 c = search parts
