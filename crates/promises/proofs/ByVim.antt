-- The cases of the word motions by a Vim list, by one computation over what their contracts cite. Assumes nothing.
use mathlib.Core.Path.{◌≡◌, refl}
use Rattle.lists.specs.Lists.{any, up_to, on_first, split, is_same}
use Rattle.lists.specs.Codes.{codes}
use Rattle.letters.specs.Letters.{letters, is_letter}
use Rattle.chars.specs.White.{whites, is_white}
use Rattle.text_check.specs.Accept.{text_refusal}
use Rattle.text.specs.Text.{rows}
use Rattle.text.specs.Offsets.{start_in, row_of}
use Rattle.folds.specs.Folds.{any_fold, fold_refusal, visible_from, prev_visible}
use Rattle.word_kinds.specs.Places.{kind_of, kind_at, on_empty_row, next_row, step_forward, inc, dec, end_of_buffer}
use Rattle.word_loops.specs.Walks.{walk, goes_on}
use Rattle.word_edges.specs.Words.{next_word_start, prev_word_start, next_word_end, prev_word_end, at_word_end}
use Rattle.word_rounds.specs.Rounds.{round_of, counted, word_motion}
use Rattle.positions.specs.Positions.{position_refusal, lowest}
use Rattle.vim_grammar.specs.Tokens.{decided}
use Rattle.vim_reader.specs.Machine.{most_of, first_of, start_of, behind, number_step, second_of, dash_step, second_step, done_step}
use Rattle.vim_reader.specs.Machine.{step_of, sign_token, token_of, ends, phase_of}
use Rattle.vim_reader.specs.Reading.{onto, later, reading}
use Rattle.vim_reader.specs.Table.{answered}
use Rattle.vim_words.specs.ByVim.{by_read, word_by_vim}
use Rattle.call_texts.specs.Carets.{moved}
use Rattle.call_classes.specs.ByTerm.{term_of}
use Rattle.call_vim_words.specs.ByTerm.{by_vim_term, vim_moved}
use Rattle.promises.specs.Cases.{judged, good}
use Rattle.promises.specs.ByVim.{vim_words}

-- each gives the right reply of its case, and neither of the two wrong ones
pub vim_words_alone : judged vim_words ≡ good vim_words
unfolding vim_words
    any up_to on_first split is_same codes letters is_letter whites is_white text_refusal rows start_in row_of any_fold fold_refusal visible_from prev_visible
    kind_of kind_at on_empty_row next_row step_forward inc dec end_of_buffer walk goes_on
    next_word_start prev_word_start next_word_end prev_word_end at_word_end round_of counted word_motion position_refusal lowest
    decided most_of first_of start_of behind number_step second_of dash_step second_step done_step step_of sign_token token_of ends phase_of onto later reading answered
    by_read word_by_vim moved term_of by_vim_term vim_moved
vim_words_alone = refl
