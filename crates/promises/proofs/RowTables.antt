-- A case of each call on row starts that are kept, by one computation over what the contracts cite. Assumes nothing.
use mathlib.Core.Path.{◌≡◌, refl}
use Rattle.lists.specs.Lists.{any, up_to, on_first, split, is_same}
use Rattle.lists.specs.Codes.{codes}
use Rattle.lists.specs.Rounds.{rounds}
use Rattle.letters.specs.Letters.{letters, is_letter}
use Rattle.chars.specs.White.{whites, is_white}
use Rattle.chars.specs.Width.{zero_widths, double_widths, width_by, width_of}
use Rattle.widths.specs.Widths.{width_as}
use Rattle.row_tabs.specs.Cells.{stop_of}
use Rattle.row_columns.specs.Columns.{visual_from, char_from}
use Rattle.row_cells.specs.Cells.{fits}
use Rattle.row_cells.specs.Offsets.{cells_in, pairs_before}
use Rattle.row_segment.specs.Segments.{after_white, first_segment}
use Rattle.row_wrap.specs.Segments.{segments_from}
use Rattle.row_wrap.specs.Modes.{segments_of}
use Rattle.text_check.specs.Accept.{text_refusal}
use Rattle.text.specs.Text.{rows}
use Rattle.text.specs.Offsets.{start_in, row_of}
use Rattle.folds.specs.Folds.{any_fold, fold_refusal, visible_from, prev_visible}
use Rattle.list_parts.specs.Numbers.{all_digits, value}
use Rattle.list_parts.specs.Parts.{trim_start, trim_end}
use Rattle.list_tokens.specs.Tokens.{tokens_in}
use Rattle.bracket_kinds.specs.Kinds.{side_of, key_bracket}
use Rattle.row_search.specs.Nearest.{first_from, last_below}
use Rattle.bracket_walks.specs.Pairs.{count, stretch}
use Rattle.bracket_walks.specs.Matching.{nearest_of, placed}
use Rattle.brackets.specs.Find.{key_to}
use Rattle.brackets.specs.Matching.{matching_bracket_pos}
use Rattle.word_kinds.specs.Places.{kind_of, kind_at, on_empty_row, next_row, step_forward, end_of_buffer}
use Rattle.word_loops.specs.Walks.{walk, goes_on}
use Rattle.word_edges.specs.Words.{next_word_start}
use Rattle.word_rounds.specs.Rounds.{round_of, counted, word_motion}
use Rattle.visible_rows.specs.Visible.{vertical_row}
use Rattle.vertical.specs.Moves.{landed}
use Rattle.screen.specs.Screen.{step_screen}
use Rattle.positions.specs.Positions.{position_refusal, lowest, or_sought}
use Rattle.margins.specs.Margins.{indent_of}
use Rattle.motions.specs.Carets.{moving}
use Rattle.motions.specs.Finds.{partner_to, seeking, lands_on}
use Rattle.edit_places.specs.Replaced.{replaced, zeros, refilled}
use Rattle.edit_folds.specs.Folds.{mapped_row, is_lost, kept_folds}
use Rattle.edit_positions.specs.After.{offset_after}
use Rattle.edit_positions.specs.Change.{is_before, beyond}
use Rattle.edit_checks.specs.Refusals.{lower, held_refusal, held_folds, stretch_refusal, edit_refusal, room_refusal}
use Rattle.edits.specs.Edits.{edited_by, kept_by}
use Rattle.row_table.specs.Table.{starts_from, table_refusal}
use Rattle.row_table.specs.Fill.{fill_refusal}
use Rattle.edit_rows.specs.Rows.{refusal_with, answered_by}
use Rattle.call_texts.specs.Carets.{moved, moved_six}
use Rattle.call_texts.specs.Asks.{move_as, seek_as}
use Rattle.call_texts.specs.Moves.{way_of, motion}
use Rattle.call_texts.specs.Seeks.{sought, seek_of, seek}
use Rattle.call_texts.specs.Viewports.{edge_of, viewport}
use Rattle.call_rows.specs.Wraps.{mode_of}
use Rattle.call_folds.specs.Terms.{word_of, word}
use Rattle.call_folds.specs.Upright.{upright_of, upright, vertical}
use Rattle.call_folds.specs.Kept.{kept_of, remembered, screen_kept}
use Rattle.call_row_table.specs.Tables.{sizes_reply}
use Rattle.call_motion_rows.specs.Asks.{replied_by}
use Rattle.promises.specs.Cases.{judged, good}
use Rattle.promises.specs.RowTables.{tabled}

-- each gives the right reply of its case, and neither of the two wrong ones
pub tabled_alone : judged tabled ≡ good tabled
unfolding tabled
    any up_to on_first split is_same codes rounds letters is_letter whites is_white zero_widths double_widths width_by width_of width_as stop_of visual_from char_from
    fits cells_in pairs_before after_white first_segment segments_from segments_of text_refusal rows start_in row_of any_fold fold_refusal visible_from prev_visible
    all_digits value trim_start trim_end tokens_in side_of key_bracket first_from last_below count stretch nearest_of placed key_to matching_bracket_pos
    kind_of kind_at on_empty_row next_row step_forward end_of_buffer walk goes_on next_word_start round_of counted word_motion vertical_row landed step_screen
    position_refusal lowest or_sought indent_of moving partner_to seeking lands_on replaced zeros refilled mapped_row is_lost kept_folds offset_after is_before beyond
    lower held_refusal held_folds stretch_refusal edit_refusal room_refusal edited_by kept_by starts_from table_refusal fill_refusal refusal_with answered_by
    moved moved_six move_as seek_as way_of motion sought seek_of seek edge_of viewport mode_of word_of word upright_of upright vertical
    kept_of remembered screen_kept sizes_reply replied_by
tabled_alone = refl
