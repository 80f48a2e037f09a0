-- The cases of the call that makes jumps, by one computation over what the contracts cite. Assumes nothing.
use mathlib.Core.Path.{◌≡◌, refl}
use Rattle.lists.specs.Lists.{any, up_to, on_first, split, is_same}
use Rattle.lists.specs.Codes.{codes}
use Rattle.lists.specs.Rounds.{rounds}
use Rattle.letters.specs.Letters.{letters, is_letter}
use Rattle.chars.specs.White.{whites, is_white}
use Rattle.text_check.specs.Accept.{text_refusal}
use Rattle.text.specs.Text.{rows}
use Rattle.text.specs.Offsets.{start_in, row_of}
use Rattle.folds.specs.Folds.{any_fold, fold_refusal, visible_from, prev_visible}
use Rattle.list_parts.specs.Numbers.{all_digits, value}
use Rattle.list_parts.specs.Parts.{trim_start, trim_end}
use Rattle.list_tokens.specs.Tokens.{tokens_in}
use Rattle.bracket_kinds.specs.Kinds.{side_of, key_bracket}
use Rattle.row_search.specs.Nearest.{first_from, last_below}
use Rattle.bracket_walks.specs.Pairs.{count, stretch}
use Rattle.bracket_walks.specs.Matching.{nearest_of, placed}
use Rattle.brackets.specs.Find.{key_to}
use Rattle.brackets.specs.Matching.{matching_bracket_pos}
use Rattle.word_kinds.specs.Places.{kind_of, kind_at, on_empty_row, next_row, step_forward, end_of_buffer}
use Rattle.word_loops.specs.Walks.{walk, goes_on}
use Rattle.word_edges.specs.Words.{next_word_start}
use Rattle.word_rounds.specs.Rounds.{round_of, counted, word_motion}
use Rattle.positions.specs.Positions.{position_refusal, lowest, or_sought}
use Rattle.motions.specs.Carets.{moving}
use Rattle.motions.specs.Finds.{partner_to, seeking, lands_on}
use Rattle.row_table.specs.Table.{starts_from, table_refusal}
use Rattle.call_texts.specs.Carets.{moved_six}
use Rattle.jumps.specs.Jumps.{places_after, caret_at_end, kind_refusal}
use Rattle.promises.specs.Cases.{judged, good}
use Rattle.promises.specs.Jumps.{leaps}

-- each gives the right reply of its case, and neither of the two wrong ones
pub leaps_alone : judged leaps ≡ good leaps
unfolding leaps
    any up_to on_first split is_same codes rounds letters is_letter whites is_white text_refusal rows start_in row_of any_fold fold_refusal visible_from
    prev_visible all_digits value trim_start trim_end tokens_in side_of key_bracket first_from last_below count stretch nearest_of placed key_to
    matching_bracket_pos kind_of kind_at on_empty_row next_row step_forward end_of_buffer walk goes_on next_word_start round_of counted word_motion position_refusal
    lowest or_sought moving partner_to seeking lands_on starts_from table_refusal moved_six places_after caret_at_end kind_refusal
leaps_alone = refl
