-- The cases of the second engine's calls, by one computation over what their contracts cite. Assumes nothing.
use mathlib.Core.Path.{◌≡◌, refl}
use Rattle.lists.specs.Lists.{any, up_to, on_first, split, is_same}
use Rattle.lists.specs.Codes.{codes}
use Rattle.letters.specs.Letters.{letters, is_letter}
use Rattle.chars.specs.White.{whites, is_white}
use Rattle.text_check.specs.Accept.{text_refusal}
use Rattle.text.specs.Text.{rows}
use Rattle.text.specs.Offsets.{start_in, row_of}
use Rattle.folds.specs.Folds.{any_fold, fold_refusal, visible_from, prev_visible}
use Rattle.list_parts.specs.Numbers.{all_digits, value}
use Rattle.list_parts.specs.Parts.{trim_start, trim_end}
use Rattle.list_tokens.specs.Tokens.{tokens_in}
use Rattle.word_kinds.specs.Places.{kind_of, kind_at, on_empty_row, next_row, step_forward, inc, dec, end_of_buffer}
use Rattle.word_loops.specs.Walks.{walk, goes_on}
use Rattle.word_edges.specs.Words.{next_word_start, prev_word_start, next_word_end, prev_word_end, at_word_end}
use Rattle.word_rounds.specs.Rounds.{round_of, counted, word_motion}
use Rattle.word_classes.specs.Classes.{char_class, end_class, class_of, classes_from}
use Rattle.word_classes.specs.Call.{places_refusal, written_by}
use Rattle.positions.specs.Positions.{position_refusal, lowest}
use Rattle.motions.specs.Carets.{moving}
use Rattle.call_texts.specs.Carets.{moved}
use Rattle.call_classes.specs.ByTerm.{term_of, by_term, left_by}
use Rattle.promises.specs.Cases.{judged, good}
use Rattle.promises.specs.ByClass.{classed}

-- each gives the right reply of its case, and neither of the two wrong ones
pub classed_alone : judged classed ≡ good classed
unfolding classed
    any up_to on_first split is_same codes letters is_letter whites is_white text_refusal rows start_in row_of any_fold fold_refusal visible_from prev_visible
    all_digits value trim_start trim_end tokens_in kind_of kind_at on_empty_row next_row step_forward inc dec end_of_buffer walk goes_on
    next_word_start prev_word_start next_word_end prev_word_end at_word_end round_of counted word_motion
    char_class end_class class_of classes_from places_refusal written_by position_refusal lowest moving moved term_of by_term left_by
classed_alone = refl
