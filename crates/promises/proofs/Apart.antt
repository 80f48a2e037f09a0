-- The table of `specs/Apart.antt` by one computation over what the contracts cite. Assumes nothing.
use Rattle.lists.proofs.Kit.{◌≡◌, refl, ap, sym, ◌∙◌, arith}
use Rattle.lists.specs.Lists.{any, up_to, on_first, split, is_same}
use Rattle.lists.specs.Codes.{codes}
use Rattle.lists.specs.Rounds.{rounds}
use Rattle.letters.specs.Letters.{letters, is_letter}
use Rattle.chars.specs.White.{whites, is_white}
use Rattle.chars.specs.Width.{zero_widths, double_widths, width_by, width_of}
use Rattle.widths.specs.Widths.{width_as}
use Rattle.row_tabs.specs.Cells.{stop_of}
use Rattle.row_columns.specs.Columns.{visual_from, char_from}
use Rattle.row_cells.specs.Cells.{fits}
use Rattle.row_segment.specs.Segments.{after_white, first_segment}
use Rattle.row_cells.specs.Offsets.{pairs_before}
use Rattle.row_wrap.specs.Segments.{segments_from}
use Rattle.row_wrap.specs.Modes.{segments_of}
use Rattle.text_check.specs.Accept.{text_refusal}
use Rattle.text.specs.Text.{rows}
use Rattle.text.specs.Offsets.{start_in, row_of}
use Rattle.folds.specs.Folds.{any_fold, fold_refusal, visible_from, prev_visible}
use Rattle.list_parts.specs.Numbers.{all_digits, value}
use Rattle.list_parts.specs.Parts.{trim_start, trim_end}
use Rattle.list_tokens.specs.Tokens.{tokens_in}
use Rattle.row_walks.specs.Paragraphs.{round_from, paragraphs}
use Rattle.word_kinds.specs.Places.{kind_of, kind_at, on_empty_row, next_row, step_forward, inc, dec, end_of_buffer}
use Rattle.word_loops.specs.Walks.{walk, goes_on}
use Rattle.visible_rows.specs.Visible.{vertical_row}
use Rattle.vertical.specs.Moves.{landed}
use Rattle.screen.specs.Screen.{step_screen}
use Rattle.word_edges.specs.Words.{next_word_end, at_word_end}
use Rattle.word_rounds.specs.Rounds.{round_of, counted, word_motion}
use Rattle.positions.specs.Positions.{position_refusal, lowest}
use Rattle.motions.specs.declared.Caret.{Caret}
use Rattle.motions.specs.declared.Moved.{Moved}
use Rattle.motions.specs.declared.Moved.TheVariants.{To}
use Rattle.motions.specs.Carets.{moving}
use Rattle.call_texts.specs.Carets.{caret_of, moved}
use Rattle.call_rows.specs.Wraps.{mode_of}
use Rattle.call_texts.specs.Asks.{move_as}
use Rattle.call_texts.specs.Moves.{way_of, motion}
use Rattle.call_folds.specs.Terms.{word_of, word}
use Rattle.call_folds.specs.Upright.{upright_of, upright, vertical}
use Rattle.promises.specs.CountsAdd.{Sums}
use Rattle.promises.specs.Apart.{computed, told, NotAdding}
use Rattle.promises.proofs.Sums.{to_once}

-- two calls that end at other columns than the one
refuted : (first : Moved) (second : Caret → Moved) (once : Moved) (c d e : Caret) → first ≡ To c → second c ≡ To d → once ≡ To e →
    (d.col ≡ e.col → ⊥) → Sums first second once → ⊥
refuted first second once c d e p q r n s =
    let by_accepted = s.accepted c p in
    n (ap (λ (k : Caret). k.col) (to_once (sym q ∙ by_accepted.twice_there ∙ sym by_accepted.once_there ∙ r)))

pub not_adding : NotAdding
unfolding computed told
    letters is_letter whites is_white zero_widths double_widths width_by width_of width_as stop_of visual_from char_from
    fits after_white first_segment segments_from segments_of pairs_before any text_refusal on_first rows start_in row_of
    any_fold fold_refusal visible_from prev_visible rounds vertical_row landed step_screen all_digits value split trim_start trim_end up_to tokens_in codes is_same
    round_from paragraphs kind_of kind_at on_empty_row next_row step_forward inc dec end_of_buffer walk goes_on
    next_word_end at_word_end round_of counted word_motion position_refusal lowest moving
    moved move_as way_of motion word_of word upright_of upright vertical mode_of
not_adding =
    record {
      table = refl;
      ends = refl;
      paragraphs_on = refuted _ _ _ (caret_of 0 0 0 0) (caret_of 0 0 0 0) (caret_of 0 1 0 0) refl refl refl (λ e. omega (arith, e));
      paragraphs_back = refuted _ _ _ (caret_of 0 0 0 0) (caret_of 0 0 0 0) (caret_of 0 1 0 0) refl refl refl (λ e. omega (arith, e));
      screen_down = refuted _ _ _ (caret_of 0 2 1 1) (caret_of 0 3 1 1) (caret_of 0 4 1 1) refl refl refl (λ e. omega (arith, e));
      screen_up = refuted _ _ _ (caret_of 0 2 1 4) (caret_of 0 0 1 4) (caret_of 0 1 1 4) refl refl refl (λ e. omega (arith, e));
      stop_twice = refuted _ _ _ (caret_of 0 0 0 0) (caret_of 0 0 0 0) (caret_of 0 2 0 0) refl refl refl (λ e. omega (arith, e));
      sticky_dropped = refuted _ _ _ (caret_of 1 0 1 1) (caret_of 2 0 1 0) (caret_of 2 1 1 1) refl refl refl (λ e. omega (arith, e));
    }
