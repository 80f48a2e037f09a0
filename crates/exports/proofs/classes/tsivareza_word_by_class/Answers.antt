-- `tsivareza_word_by_class` meets its contract: the room is filled, and the call on code points answers. Assumes nothing.
use Rattle.lists.proofs.Kit.{refl, List, ℕ}
use Rattle.call_texts.specs.Carets.{caret_of}
use Rattle.call_folds.specs.Terms.{is_big}
use Rattle.call_classes.specs.ByTerm.{words_by_class, slices_left}
use Rattle.call_bytes.proofs.Joins.{joined_three}
use Rattle.exports.proofs.Parts.{parts, three_left}
use Rattle.exports.proofs.classes.tsivareza_word_by_class.Goals as goal

-- the call on code points answers
pub returns : goal.returns
returns c =
    let filled = c.fill_three-f.ensures in
    let given = c.args in
    let caret = caret_of given.row given.col given.held given.sticky in
    let word_by_class_told = c.word_by_class.ensures in
    record {
      answered_all = joined_three filled (λ (t u v : List ℕ). words_by_class given.op (is_big given.big) given.count caret t u v given.classes.now)
          c.if-f-ne0.false _ _ refl refl word_by_class_told.replied;
      classes_after = three_left filled (λ (t u v : List ℕ). slices_left given.op caret t u v given.classes.now)
          c.if-f-ne0.false given.classes.now _ _ refl refl word_by_class_told.classes_after;
    }

pub returns-then-f-ne0 : goal.returns-then-f-ne0
returns-then-f-ne0 c = search parts

pub slice_bounds-word_by_class-end : goal.slice_bounds-word_by_class-end
slice_bounds-word_by_class-end c = search parts

pub slice_bounds-word_by_class-end-2 : goal.slice_bounds-word_by_class-end-2
slice_bounds-word_by_class-end-2 c = search parts

pub slice_bounds-word_by_class-end-3 : goal.slice_bounds-word_by_class-end-3
slice_bounds-word_by_class-end-3 c = search parts
