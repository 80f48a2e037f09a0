-- Document 01's printed session, by one computation over what the contract of the session cites. Assumes nothing.
use mathlib.Core.Path.{◌≡◌, refl}
use Rattle.lists.specs.Lists.{any, up_to, on_first, split, is_same}
use Rattle.lists.specs.Codes.{codes}
use Rattle.lists.specs.Rounds.{rounds}
use Rattle.letters.specs.Letters.{letters, is_letter}
use Rattle.chars.specs.White.{whites, is_white}
use Rattle.chars.specs.Width.{zero_widths, double_widths, width_by, width_of}
use Rattle.widths.specs.Widths.{width_as}
use Rattle.row_check.specs.Row.{row_refusal, column_of}
use Rattle.row_tabs.specs.Cells.{column_refusal, stop_of}
use Rattle.row_columns.specs.Columns.{visual_from, char_from}
use Rattle.text_check.specs.Accept.{text_refusal}
use Rattle.text.specs.Text.{rows}
use Rattle.text.specs.Offsets.{start_in, row_of}
use Rattle.folds.specs.Folds.{any_fold, fold_refusal, visible_from, prev_visible}
use Rattle.list_parts.specs.Numbers.{all_digits, value}
use Rattle.list_parts.specs.Parts.{trim_start, trim_end}
use Rattle.list_tokens.specs.Tokens.{tokens_in}
use Rattle.bracket_kinds.specs.Kinds.{side_of, key_bracket}
use Rattle.row_search.specs.Nearest.{first_from, last_below}
use Rattle.bracket_walks.specs.Pairs.{count, stretch}
use Rattle.bracket_walks.specs.Matching.{nearest_of, placed}
use Rattle.brackets.specs.Matching.{matching_bracket_pos}
use Rattle.brackets.specs.Find.{key_to}
use Rattle.word_kinds.specs.Places.{kind_of, kind_at, on_empty_row, next_row, step_forward, end_of_buffer}
use Rattle.word_loops.specs.Walks.{walk, goes_on}
use Rattle.visible_rows.specs.Visible.{vertical_row}
use Rattle.vertical.specs.Moves.{landed}
use Rattle.word_edges.specs.Words.{next_word_start}
use Rattle.word_rounds.specs.Rounds.{round_of, counted, word_motion}
use Rattle.positions.specs.Positions.{position_refusal, lowest, or_sought}
use Rattle.motions.specs.Carets.{moving}
use Rattle.motions.specs.Finds.{partner_to, seeking, lands_on}
use Rattle.print.specs.Print.{spell, decimal}
use Rattle.session_row.specs.Commands.{digits_from, digits_of, count_in}
use Rattle.session_keys.specs.Keys.{two_bytes, word_keys, line_keys, place_keys, found}
use Rattle.utf8.specs.Encoding.{encoding, utf8}
use Rattle.utf8.specs.Decoding.{onto, is_lead, tails_of, low_of, high_of, bits_of, ended, reading}
use Rattle.utf8.specs.Walks.{text_of}
use Rattle.session_input.specs.Parts.{command_rows, has_stop, text_at, is_bad, is_refused}
use Rattle.session_presses.specs.Pressed.{act_of, acted}
use Rattle.session.specs.Session.{shown_of, line_of, lines_of, session_of}
use Rattle.session.specs.Session.{counted as turned}
use Rattle.promises.specs.Cases.{judged, good}
use Rattle.promises.specs.Sessions.{sessions}

-- the session prints what document 01 says, and neither of the two wrong outputs
pub session_alone : judged sessions ≡ good sessions
unfolding sessions
    letters is_letter whites is_white zero_widths double_widths width_by width_of width_as any row_refusal column_of column_refusal stop_of visual_from char_from
    text_refusal on_first rows start_in row_of any_fold fold_refusal visible_from prev_visible
    all_digits value split trim_start trim_end up_to tokens_in
    side_of key_bracket first_from last_below count stretch nearest_of placed matching_bracket_pos key_to
    kind_of kind_at on_empty_row next_row step_forward end_of_buffer walk goes_on rounds vertical_row landed next_word_start round_of counted word_motion
    position_refusal lowest or_sought moving partner_to seeking lands_on
    codes spell decimal is_same digits_from digits_of count_in two_bytes word_keys line_keys place_keys found
    encoding utf8 onto is_lead tails_of low_of high_of bits_of ended reading text_of
    command_rows has_stop text_at is_bad is_refused act_of acted shown_of line_of lines_of session_of turned
session_alone = refl
