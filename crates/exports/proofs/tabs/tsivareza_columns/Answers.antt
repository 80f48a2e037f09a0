-- `tsivareza_columns` meets its contract: the room is filled, and the call on code points answers. Assumes nothing.
use Rattle.call_rows.specs.Tabs.{tab_columns}
use Rattle.call_bytes.proofs.Replies.{answered_one}
use Rattle.exports.proofs.Parts.{parts}
use Rattle.exports.proofs.tabs.tsivareza_columns.Goals as goal

-- the call on code points answers
pub returns : goal.returns
returns c =
    let given = c.args in
    answered_one c.fill-f.ensures (tab_columns given.op given.col given.tabstop) c.if-f-ne0.false
    c.columns.ensures

pub returns-then-f-ne0 : goal.returns-then-f-ne0
returns-then-f-ne0 c = search parts

pub slice_bounds-columns-end : goal.slice_bounds-columns-end
slice_bounds-columns-end c = search parts

pub slice_bounds-columns-end-2 : goal.slice_bounds-columns-end-2
slice_bounds-columns-end-2 c = search parts
