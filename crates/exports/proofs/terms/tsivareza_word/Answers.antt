-- `tsivareza_word` meets its contract: the room is filled, and the call on code points answers. Assumes nothing.
use Rattle.lists.proofs.Kit.{refl}
use Rattle.call_texts.specs.Carets.{caret_of}
use Rattle.call_folds.specs.Terms.{is_big, words}
use Rattle.call_bytes.proofs.Joins.{joined_three}
use Rattle.exports.proofs.Parts.{parts}
use Rattle.exports.proofs.terms.tsivareza_word.Goals as goal

-- the call on code points answers
pub returns : goal.returns
returns c =
    let given = c.args in
    joined_three c.fill_three-f.ensures
    (words given.op (is_big given.big) given.count (caret_of given.row given.col given.held given.sticky)) c.if-f-ne0.false
    _ _ refl refl c.word.ensures

pub returns-then-f-ne0 : goal.returns-then-f-ne0
returns-then-f-ne0 c = search parts

pub slice_bounds-word-end : goal.slice_bounds-word-end
slice_bounds-word-end c = search parts

pub slice_bounds-word-end-2 : goal.slice_bounds-word-end-2
slice_bounds-word-end-2 c = search parts

pub slice_bounds-word-end-3 : goal.slice_bounds-word-end-3
slice_bounds-word-end-3 c = search parts
