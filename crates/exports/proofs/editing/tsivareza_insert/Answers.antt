-- `tsivareza_insert` meets its contract: the room is filled, and the call on code points edits. Assumes nothing.
use Rattle.call_edits.proofs.Filling.{filled_unfit, filled_edits}
use Rattle.exports.proofs.Parts.{parts}
use Rattle.exports.proofs.editing.tsivareza_insert.Goals as goal

-- the call on code points edits
pub returns : goal.returns
returns c =
    filled_edits c.fill-f.ensures c.if-f-ne0.false c.insert.ensures

pub returns-then-f-ne0 : goal.returns-then-f-ne0
returns-then-f-ne0 c = search filled_unfit

pub slice_bounds-insert-end : goal.slice_bounds-insert-end
slice_bounds-insert-end c = search parts

pub slice_bounds-insert-end-2 : goal.slice_bounds-insert-end-2
slice_bounds-insert-end-2 c = search parts
