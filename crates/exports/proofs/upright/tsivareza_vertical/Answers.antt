-- `tsivareza_vertical` meets its contract: the room is filled, and the call on code points answers. Assumes nothing.
use Rattle.lists.proofs.Kit.{refl}
use Rattle.call_texts.specs.Carets.{caret_of}
use Rattle.call_folds.specs.Upright.{verticals}
use Rattle.call_bytes.proofs.Twos.{joined_two}
use Rattle.exports.proofs.Parts.{parts}
use Rattle.exports.proofs.upright.tsivareza_vertical.Goals as goal

-- the call on code points answers
pub returns : goal.returns
returns c =
    let given = c.args in
    joined_two c.fill_two-f.ensures
    (verticals given.op given.mode given.width given.count given.tabstop (caret_of given.row given.col given.held given.sticky))
    c.if-f-ne0.false _ refl c.vertical.ensures

pub returns-then-f-ne0 : goal.returns-then-f-ne0
returns-then-f-ne0 c = search parts

pub slice_bounds-vertical-end : goal.slice_bounds-vertical-end
slice_bounds-vertical-end c = search parts

pub slice_bounds-vertical-end-2 : goal.slice_bounds-vertical-end-2
slice_bounds-vertical-end-2 c = search parts
