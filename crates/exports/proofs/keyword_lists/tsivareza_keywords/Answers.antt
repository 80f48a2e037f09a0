-- `tsivareza_keywords` meets its contract: the room is filled, and the call on code points answers. Assumes nothing.
use Rattle.call_rows.specs.Lists.{keywords}
use Rattle.call_bytes.proofs.Replies.{answered_one}
use Rattle.exports.proofs.Parts.{parts}
use Rattle.exports.proofs.keyword_lists.tsivareza_keywords.Goals as goal

-- the call on code points answers
pub returns : goal.returns
returns c =
    let given = c.args in
    answered_one c.fill-f.ensures (keywords given.op given.x) c.if-f-ne0.false c.keywords.ensures

pub returns-then-f-ne0 : goal.returns-then-f-ne0
returns-then-f-ne0 c = search parts

pub slice_bounds-keywords-end : goal.slice_bounds-keywords-end
slice_bounds-keywords-end c = search parts

pub slice_bounds-keywords-end-2 : goal.slice_bounds-keywords-end-2
slice_bounds-keywords-end-2 c = search parts
