-- `tsivareza_insert_rows` meets its contract: the room is filled, and the call on code points edits. Assumes nothing.
use Rattle.call_row_table.proofs.Filling.{keeps_unfit, keeps_done}
use Rattle.exports.proofs.Parts.{parts}
use Rattle.exports.proofs.tables.tsivareza_insert_rows.Goals as goal

-- the call on code points edits
pub returns : goal.returns
returns c =
    keeps_done c.fill-f.ensures c.if-f-ne0.false c.insert_rows.ensures

pub returns-then-f-ne0 : goal.returns-then-f-ne0
returns-then-f-ne0 c = search keeps_unfit

pub slice_bounds-insert_rows-end : goal.slice_bounds-insert_rows-end
slice_bounds-insert_rows-end c = search parts

pub slice_bounds-insert_rows-end-2 : goal.slice_bounds-insert_rows-end-2
slice_bounds-insert_rows-end-2 c = search parts
