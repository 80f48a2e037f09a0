-- A case of each edit and of each call on fold files, by one computation over what the contracts cite. Assumes nothing.
use mathlib.Core.Path.{◌≡◌, refl}
use Rattle.lists.specs.Lists.{any, on_first, is_same}
use Rattle.lists.specs.Codes.{codes}
use Rattle.text_check.specs.Accept.{text_refusal}
use Rattle.text.specs.Text.{rows}
use Rattle.text.specs.Offsets.{start_in, row_of}
use Rattle.folds.specs.Folds.{any_fold, fold_refusal}
use Rattle.positions.specs.Positions.{position_refusal, lowest}
use Rattle.fold_blocks.specs.Bytes.{entries, entries_in, sum}
use Rattle.fold_blocks.specs.Files.{blocks_for, body, block, blocks, file_of}
use Rattle.fold_blocks.specs.Listed.{cut, listed, count_all}
use Rattle.fold_blocks.specs.Layout.{is_uncut, is_torn, breaks, broken, layout_refusal, room_refusal}
use Rattle.fold_writer.specs.Writing.{write_refusal, written, written_in}
use Rattle.fold_reader.specs.Reading.{read_refusal, loaded, loaded_in}
use Rattle.edit_places.specs.Replaced.{replaced, zeros, refilled}
use Rattle.edit_folds.specs.Folds.{mapped_row, is_lost, kept_folds}
use Rattle.edit_positions.specs.After.{offset_after}
use Rattle.edit_positions.specs.Change.{is_before, beyond}
use Rattle.edit_checks.specs.Refusals.{lower, held_refusal, held_folds, stretch_refusal, edit_refusal}
use Rattle.edit_checks.specs.Refusals.{room_refusal as room_refusal_of}
use Rattle.edits.specs.Edits.{edited_by, kept_by}
use Rattle.call_fold_file.specs.FoldFiles.{told_written, told_loaded}
use Rattle.promises.specs.Cases.{judged, good}
use Rattle.promises.specs.Buffers.{edit_cases, file_cases}

-- each gives the right reply of its case, and neither of the two wrong ones
pub edits_alone : judged edit_cases ≡ good edit_cases
unfolding edit_cases
    any on_first is_same codes text_refusal rows start_in row_of any_fold fold_refusal position_refusal lowest replaced zeros refilled mapped_row is_lost kept_folds
    offset_after is_before beyond lower held_refusal held_folds stretch_refusal edit_refusal room_refusal_of edited_by kept_by
edits_alone = refl

pub files_alone : judged file_cases ≡ good file_cases
unfolding file_cases
    any on_first is_same codes text_refusal rows any_fold fold_refusal entries entries_in sum blocks_for body block blocks file_of cut listed count_all
    is_uncut is_torn breaks broken layout_refusal room_refusal lowest write_refusal written written_in read_refusal loaded loaded_in told_written told_loaded
files_alone = refl
