-- `tsivareza_row_starts` meets its contract: the room is filled, and the call on code points fills the table. Assumes nothing.
use Rattle.call_row_table.proofs.Filling.{fills_unfit, fills_done}
use Rattle.exports.proofs.Parts.{parts}
use Rattle.exports.proofs.tables.tsivareza_row_starts.Goals as goal

-- the call on code points fills
pub returns : goal.returns
returns c =
    fills_done c.fill-f.ensures c.if-f-ne0.false c.row_starts.ensures

pub returns-then-f-ne0 : goal.returns-then-f-ne0
returns-then-f-ne0 c = search fills_unfit

pub slice_bounds-row_starts-end : goal.slice_bounds-row_starts-end
slice_bounds-row_starts-end c = search parts

pub slice_bounds-row_starts-end-2 : goal.slice_bounds-row_starts-end-2
slice_bounds-row_starts-end-2 c = search parts
