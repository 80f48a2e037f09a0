-- `tsivareza_jumps` meets its contract: the room is filled, and the call on code points answers. Assumes nothing.
use Rattle.lists.proofs.Kit.{refl, List, ℕ}
use Rattle.call_texts.specs.Carets.{caret_six}
use Rattle.jumps.specs.Jumps.{places_left}
use Rattle.call_jumps.specs.Jumping.{jumping}
use Rattle.call_bytes.proofs.Joins.{joined_three}
use Rattle.exports.proofs.Parts.{parts, three_left}
use Rattle.exports.proofs.jumping.tsivareza_jumps.Goals as goal

-- the call on code points answers
pub returns : goal.returns
returns c =
    let filled = c.fill_three-f.ensures in
    let given = c.args in
    let caret_six_lem = caret_six given.row given.col given.held given.sticky given.kept given.offset in
    let jumps_told = c.jumps.ensures in
    record {
      answered_all = joined_three filled (λ (t u v : List ℕ). jumping given.starts.now given.content caret_six_lem given.pairs.now given.answers.now t u v)
          c.if-f-ne0.false _ _ refl refl jumps_told.replied;
      answers_after = three_left filled (λ (t u v : List ℕ). places_left t given.starts.now given.content u v caret_six_lem given.pairs.now given.answers.now)
          c.if-f-ne0.false given.answers.now _ _ refl refl jumps_told.answers_after;
    }

pub returns-then-f-ne0 : goal.returns-then-f-ne0
returns-then-f-ne0 c = search parts

pub slice_bounds-jumps-end : goal.slice_bounds-jumps-end
slice_bounds-jumps-end c = search parts

pub slice_bounds-jumps-end-2 : goal.slice_bounds-jumps-end-2
slice_bounds-jumps-end-2 c = search parts

pub slice_bounds-jumps-end-3 : goal.slice_bounds-jumps-end-3
slice_bounds-jumps-end-3 c = search parts
