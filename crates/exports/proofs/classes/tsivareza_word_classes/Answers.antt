-- `tsivareza_word_classes` meets its contract: the room is filled, and the call on code points answers. Assumes nothing.
use Rattle.lists.proofs.Kit.{refl, List, ℕ}
use Rattle.call_classes.specs.Classed.{classing, classes_in}
use Rattle.call_bytes.proofs.Twos.{joined_two}
use Rattle.exports.proofs.Parts.{parts, two_left}
use Rattle.exports.proofs.classes.tsivareza_word_classes.Goals as goal

-- the call on code points answers
pub returns : goal.returns
returns c =
    let filled = c.fill_two-f.ensures in
    let given = c.args in
    let word_classes_told = c.word_classes.ensures in
    record { answered_all = joined_two filled (λ (t v : List ℕ). classing t v given.classes.now) c.if-f-ne0.false _ refl word_classes_told.replied; classes_after = two_left filled (λ (t v : List ℕ). classes_in t v given.classes.now) c.if-f-ne0.false given.classes.now _ refl word_classes_told.classes_after }

pub returns-then-f-ne0 : goal.returns-then-f-ne0
returns-then-f-ne0 c = search parts

pub slice_bounds-word_classes-end : goal.slice_bounds-word_classes-end
slice_bounds-word_classes-end c = search parts

pub slice_bounds-word_classes-end-2 : goal.slice_bounds-word_classes-end-2
slice_bounds-word_classes-end-2 c = search parts
