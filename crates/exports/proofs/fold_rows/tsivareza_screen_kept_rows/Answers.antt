-- `tsivareza_screen_kept_rows` meets its contract: the room is filled, and the call on code points answers. Assumes nothing.
use Rattle.lists.proofs.Kit.{refl, List, ℕ}
use Rattle.call_texts.specs.Carets.{caret_six}
use Rattle.call_folds.specs.Kept.{screens_kept}
use Rattle.call_motion_rows.specs.Asks.{by_table}
use Rattle.call_bytes.proofs.Twos.{joined_two}
use Rattle.exports.proofs.Parts.{parts}
use Rattle.exports.proofs.fold_rows.tsivareza_screen_kept_rows.Goals as goal

-- the call on code points answers
pub returns : goal.returns
returns c =
    let given = c.args in
    joined_two c.fill_two-f.ensures (λ (t folds : List ℕ). by_table t given.starts.now given.content
    (screens_kept given.op given.mode given.width given.count given.tabstop
    (caret_six given.row given.col given.held given.sticky given.kept given.offset) t folds))
    c.if-f-ne0.false _ refl c.screen_kept_rows.ensures

pub returns-then-f-ne0 : goal.returns-then-f-ne0
returns-then-f-ne0 c = search parts

pub slice_bounds-screen_kept_rows-end : goal.slice_bounds-screen_kept_rows-end
slice_bounds-screen_kept_rows-end c = search parts

pub slice_bounds-screen_kept_rows-end-2 : goal.slice_bounds-screen_kept_rows-end-2
slice_bounds-screen_kept_rows-end-2 c = search parts
