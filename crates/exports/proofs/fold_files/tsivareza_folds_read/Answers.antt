-- `tsivareza_folds_read` meets its contract: the room is filled, and the call on code points answers. Assumes nothing.
use Rattle.lists.proofs.Kit.{List, ℕ}
use Rattle.fold_reader.specs.Reading.{loaded_in}
use Rattle.call_fold_file.specs.FoldFiles.{reads}
use Rattle.call_bytes.proofs.Replies.{answered_one, left_fit}
use Rattle.exports.proofs.Parts.{parts}
use Rattle.exports.proofs.fold_files.tsivareza_folds_read.Goals as goal

-- the call on code points answers
pub returns : goal.returns
returns c =
    let given = c.args in
    let fill_told = c.fill-f.ensures in
    let folds_read_told = c.folds_read.ensures in
    record { answered = answered_one fill_told (λ (t : List ℕ). reads t given.file.now given.folds.now) c.if-f-ne0.false folds_read_told.replied; folds_after = left_fit fill_told (λ (t : List ℕ). loaded_in t given.file.now given.folds.now) c.if-f-ne0.false _ folds_read_told.folds_after }

pub returns-then-f-ne0 : goal.returns-then-f-ne0
returns-then-f-ne0 c = search parts

pub slice_bounds-folds_read-end : goal.slice_bounds-folds_read-end
slice_bounds-folds_read-end c = search parts

pub slice_bounds-folds_read-end-2 : goal.slice_bounds-folds_read-end-2
slice_bounds-folds_read-end-2 c = search parts
