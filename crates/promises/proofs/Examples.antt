-- Document 01's P1 to P12, and a case of every call, each by one computation over what the contracts cite. Assumes nothing.
use mathlib.Core.Path.{◌≡◌, refl}
use Rattle.lists.specs.Lists.{any, up_to, on_first, split, is_same}
use Rattle.lists.specs.Codes.{codes}
use Rattle.lists.specs.Rounds.{rounds}
use Rattle.letters.specs.Letters.{letters, is_letter}
use Rattle.chars.specs.White.{whites, is_white}
use Rattle.chars.specs.Width.{zero_widths, double_widths, width_by, width_of}
use Rattle.widths.specs.Widths.{class_a, is_ambiguous, wide_width, width_as}
use Rattle.row_check.specs.Row.{row_refusal}
use Rattle.row_check.specs.Row.{column_of as column_at}
use Rattle.row_tabs.specs.Cells.{column_refusal, stop_of}
use Rattle.row_tabs.specs.Indents.{leading_from}
use Rattle.row_columns.specs.Columns.{visual_from, char_from}
use Rattle.row_cells.specs.Cells.{fits}
use Rattle.row_segment.specs.Segments.{after_white, first_segment}
use Rattle.row_wrap.specs.Segments.{segments_from}
use Rattle.row_wrap.specs.Modes.{segments_of}
use Rattle.row_wrap.specs.Calls.{wrap_refusal}
use Rattle.row_cells.specs.Offsets.{cells_in, pairs_before}
use Rattle.row_wrap.specs.Room.{count_of, room_refusal}
use Rattle.text_check.specs.Accept.{text_refusal}
use Rattle.text.specs.Text.{rows}
use Rattle.text.specs.Offsets.{start_in, row_of}
use Rattle.folds.specs.Folds.{any_fold, fold_refusal, visible_from, prev_visible}
use Rattle.list_parts.specs.Numbers.{all_digits, value}
use Rattle.list_parts.specs.Parts.{trim_start, trim_end}
use Rattle.list_tokens.specs.Tokens.{tokens_in}
use Rattle.keywords.proofs.Worked.{p11}
use Rattle.bracket_kinds.specs.Kinds.{side_of, key_bracket}
use Rattle.row_search.specs.Nearest.{first_from, last_below}
use Rattle.bracket_walks.specs.Pairs.{count, stretch}
use Rattle.bracket_walks.specs.Matching.{nearest_of, placed}
use Rattle.brackets.specs.Matching.{matching_bracket_pos}
use Rattle.row_search.specs.Find.{landing}
use Rattle.brackets.specs.Find.{key_to}
use Rattle.bracket_inner.specs.Inner.{reaches, paired, pair_from, answered}
use Rattle.row_walks.specs.Paragraphs.{round_from, paragraphs}
use Rattle.row_walks.specs.Sections.{section_up, section_down}
use Rattle.word_kinds.specs.Places.{kind_of, kind_at, on_empty_row, next_row, step_forward, inc, dec, end_of_buffer}
use Rattle.word_loops.specs.Walks.{walk, goes_on}
use Rattle.visible_rows.specs.Visible.{vertical_row}
use Rattle.vertical.specs.Moves.{landed}
use Rattle.screen.specs.Screen.{step_screen}
use Rattle.word_edges.specs.Words.{next_word_start, prev_word_start, next_word_end, prev_word_end, at_word_end}
use Rattle.word_rounds.specs.Rounds.{round_of, counted, word_motion}
use Rattle.positions.specs.Positions.{position_refusal, lowest, or_sought}
use Rattle.steps.specs.Steps.{space_fwd, backspace_back}
use Rattle.motions.specs.Carets.{moving}
use Rattle.margins.specs.Margins.{indent_of, solid_of}
use Rattle.motions.specs.Finds.{partner_to, seeking, lands_on}
use Rattle.call_texts.specs.Carets.{moved, moved_six}
use Rattle.call_rows.specs.Characters.{fact}
use Rattle.call_rows.specs.Lists.{token_count, by_table, in_table, keyword}
use Rattle.call_texts.specs.Asks.{move_as, seek_as}
use Rattle.call_texts.specs.Moves.{way_of, motion}
use Rattle.call_texts.specs.Partners.{partnered}
use Rattle.call_texts.specs.Inners.{surrounded, inner_by}
use Rattle.call_texts.specs.Seeks.{sought, seek_of, seek}
use Rattle.call_rows.specs.Tabs.{told_column, tab_column_under}
use Rattle.call_folds.specs.Terms.{word_of, word}
use Rattle.call_texts.specs.Viewports.{edge_of, viewport}
use Rattle.call_folds.specs.Upright.{upright_of, upright, vertical}
use Rattle.call_folds.specs.Kept.{kept_of, remembered, screen_kept}
use Rattle.call_rows.specs.Wraps.{told_segment, told_segments, offset_under, mode_of, segmented_under, left_under}
use Rattle.promises.specs.Table.{table, given, asked, Examples}
use Rattle.promises.specs.Cases.{judged, good}
use Rattle.promises.specs.Calls.{calls}

computed : given table ≡ asked table
unfolding table
    letters is_letter whites is_white zero_widths double_widths width_by width_of width_as row_refusal column_at column_refusal stop_of visual_from char_from
    fits after_white first_segment segments_from segments_of wrap_refusal count_of room_refusal any text_refusal on_first rows start_in row_of
    any_fold fold_refusal visible_from all_digits value split trim_start trim_end up_to tokens_in codes
    side_of key_bracket first_from last_below count stretch nearest_of placed matching_bracket_pos reaches paired pair_from answered surrounded inner_by key_to landing
    round_from paragraphs kind_of kind_at on_empty_row next_row step_forward end_of_buffer walk goes_on next_word_start round_of counted word_motion
    position_refusal lowest moving partner_to seeking lands_on or_sought
    moved keyword move_as seek_as way_of motion partnered sought seek_of seek told_column tab_column_under word_of word told_segments mode_of segmented_under left_under
computed = refl

-- P1 to P12
pub examples : Examples
examples = record { table = computed; p11 = p11 }

-- every call gives the right reply of its case, and neither of the two wrong ones
pub right_alone : judged calls ≡ good calls
unfolding calls
    letters is_letter whites is_white zero_widths double_widths width_by width_of class_a is_ambiguous wide_width width_as
    row_refusal column_at column_refusal stop_of visual_from char_from leading_from
    fits after_white first_segment segments_from segments_of wrap_refusal cells_in pairs_before count_of room_refusal any text_refusal on_first rows start_in row_of
    any_fold fold_refusal visible_from prev_visible rounds vertical_row landed step_screen all_digits value split trim_start trim_end up_to tokens_in codes is_same
    side_of key_bracket first_from last_below count stretch nearest_of placed matching_bracket_pos reaches paired pair_from answered surrounded inner_by key_to landing
    round_from paragraphs section_up section_down kind_of kind_at on_empty_row next_row step_forward inc dec end_of_buffer walk goes_on
    next_word_start prev_word_start next_word_end prev_word_end at_word_end round_of counted word_motion
    position_refusal lowest moving indent_of solid_of space_fwd backspace_back partner_to seeking lands_on or_sought
    fact moved token_count by_table in_table keyword move_as seek_as way_of motion partnered sought seek_of seek told_column tab_column_under word_of word
    upright_of upright vertical kept_of remembered screen_kept moved_six edge_of viewport
    told_segment told_segments offset_under mode_of segmented_under left_under
right_alone = refl
