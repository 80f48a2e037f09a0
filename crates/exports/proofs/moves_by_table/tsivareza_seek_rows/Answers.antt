-- `tsivareza_seek_rows` meets its contract: the room is filled, and the call on code points answers. Assumes nothing.
use Rattle.lists.proofs.Kit.{List, ℕ}
use Rattle.call_texts.specs.Carets.{caret_of}
use Rattle.call_texts.specs.Seeks.{seeks}
use Rattle.call_motion_rows.specs.Asks.{by_table}
use Rattle.call_bytes.proofs.Replies.{answered_one}
use Rattle.exports.proofs.Parts.{parts}
use Rattle.exports.proofs.moves_by_table.tsivareza_seek_rows.Goals as goal

-- the call on code points answers
pub returns : goal.returns
returns c =
    let given = c.args in
    answered_one c.fill-f.ensures (λ (t : List ℕ). by_table t given.starts.now given.content
    (seeks given.op given.x (caret_of given.row given.col given.held given.sticky) t)) c.if-f-ne0.false c.seek_rows.ensures

pub returns-then-f-ne0 : goal.returns-then-f-ne0
returns-then-f-ne0 c = search parts

pub slice_bounds-seek_rows-end : goal.slice_bounds-seek_rows-end
slice_bounds-seek_rows-end c = search parts

pub slice_bounds-seek_rows-end-2 : goal.slice_bounds-seek_rows-end-2
slice_bounds-seek_rows-end-2 c = search parts
