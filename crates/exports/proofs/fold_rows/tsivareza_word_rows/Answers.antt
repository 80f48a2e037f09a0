-- `tsivareza_word_rows` meets its contract: the room is filled, and the call on code points answers. Assumes nothing.
use Rattle.lists.proofs.Kit.{refl, List, ℕ}
use Rattle.call_texts.specs.Carets.{caret_of}
use Rattle.call_folds.specs.Terms.{is_big, words}
use Rattle.call_motion_rows.specs.Asks.{by_table}
use Rattle.call_bytes.proofs.Joins.{joined_three}
use Rattle.exports.proofs.Parts.{parts}
use Rattle.exports.proofs.fold_rows.tsivareza_word_rows.Goals as goal

-- the call on code points answers
pub returns : goal.returns
returns c =
    let given = c.args in
    joined_three c.fill_three-f.ensures (λ (t folds list : List ℕ). by_table t given.starts.now given.content
    (words given.op (is_big given.big) given.count (caret_of given.row given.col given.held given.sticky) t folds list)) c.if-f-ne0.false
    _ _ refl refl c.word_rows.ensures

pub returns-then-f-ne0 : goal.returns-then-f-ne0
returns-then-f-ne0 c = search parts

pub slice_bounds-word_rows-end : goal.slice_bounds-word_rows-end
slice_bounds-word_rows-end c = search parts

pub slice_bounds-word_rows-end-2 : goal.slice_bounds-word_rows-end-2
slice_bounds-word_rows-end-2 c = search parts

pub slice_bounds-word_rows-end-3 : goal.slice_bounds-word_rows-end-3
slice_bounds-word_rows-end-3 c = search parts
