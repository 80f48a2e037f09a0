-- `tsivareza_folds_write` meets its contract: the room is filled, and the call on code points answers. Assumes nothing.
use Rattle.lists.proofs.Kit.{refl, List, ℕ}
use Rattle.fold_writer.specs.Writing.{written_in}
use Rattle.call_fold_file.specs.FoldFiles.{writes}
use Rattle.call_bytes.proofs.Twos.{joined_two}
use Rattle.exports.proofs.Parts.{parts, two_left}
use Rattle.exports.proofs.fold_files.tsivareza_folds_write.Goals as goal

-- the call on code points answers
pub returns : goal.returns
returns c =
    let filled = c.fill_two-f.ensures in
    let given = c.args in
    let folds_write_told = c.folds_write.ensures in
    record { answered_all = joined_two filled (λ (t v : List ℕ). writes t v given.file.now) c.if-f-ne0.false _ refl folds_write_told.replied; file_after = two_left filled (λ (t v : List ℕ). written_in t v given.file.now) c.if-f-ne0.false given.file.now _ refl folds_write_told.file_after }

pub returns-then-f-ne0 : goal.returns-then-f-ne0
returns-then-f-ne0 c = search parts

pub slice_bounds-folds_write-end : goal.slice_bounds-folds_write-end
slice_bounds-folds_write-end c = search parts

pub slice_bounds-folds_write-end-2 : goal.slice_bounds-folds_write-end-2
slice_bounds-folds_write-end-2 c = search parts
