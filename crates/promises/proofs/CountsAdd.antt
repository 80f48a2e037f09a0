-- Counts add: the statement of `specs/CountsAdd.antt` holds of every move that is named. No check of a call looks at its count, and where the first call leads
-- to stands in the text, so that the second is accepted; the rest is the law of rounds of each motion. Assumes nothing.
use Rattle.lists.proofs.Kit.{ap, sym, List, [], ◌∷◌, Bool, false, ℕ, ◌+◌, ◌<◌}
use Rattle.widths.specs.declared.Ambiguous.{Ambiguous}
use Rattle.widths.specs.Widths.{width_as}
use Rattle.text_check.specs.Accept.{text_refusal}
use Rattle.text.specs.Text.{row_count}
use Rattle.folds.specs.Folds.{fold_refusal}
use Rattle.list_tokens.specs.Tokens.{in_list}
use Rattle.keywords.specs.Table.{parse_of}
use Rattle.word_kinds.specs.Places.{kind_of}
use Rattle.word_rounds.specs.declared.Motion.{Motion}
use Rattle.word_rounds.proofs.Adding.{word_counts_add}
use Rattle.visible_rows.specs.Visible.{delta_of}
use Rattle.vertical.specs.Moves.{move_vertical}
use Rattle.vertical.proofs.Adding.{vertical_adds}
use Rattle.row_wrap.specs.declared.Wrap.{Wrap}
use Rattle.screen.proofs.Keeping.{kept_adds}
use Rattle.positions.proofs.Lowest.{lowest_none}
use Rattle.text_moves.specs.declared.Way.{Way}
use Rattle.text_moves.specs.declared.Way.TheVariants as way
use Rattle.text_moves.specs.Ways.{gone}
use Rattle.text_moves.proofs.Adding as Ways
use Rattle.motions.specs.declared.Caret.{Caret}
use Rattle.motions.specs.declared.Move.TheVariants.{By, Word, Rows, Screen, ScreenKept, Viewport, Bracket, Find}
use Rattle.motions.specs.Carets.{here, caret_refusal, refusal_of, moving, put}
use Rattle.motions.specs.WordMoves.{folds_of, word_refusal, word_caret, at_place, move_word}
use Rattle.motions.specs.UpDown.{stop_refusal, vertical_refusal, at_target, move_rows, at_kept, kept_caret, move_screen_rows_kept}
use Rattle.motions.proofs.Landing.{way_lands}
use Rattle.motions.proofs.WordLanding.{word_lands}
use Rattle.motions.proofs.Reaching.{rows_lands, kept_lands}
use Rattle.promises.specs.Adding.{WayAdds}
use Rattle.promises.specs.CountsAdd.{Sums, CountsAdd}
use Rattle.promises.proofs.Sums.{moving_yes, moving_sums, taken}

-- the ways that are named
way_repeats : (t : List ℕ) (w : Way) → WayAdds w → Ways.Repeats t w
way_repeats t way.Left a = Ways.left t
way_repeats t way.RightInLine a = Ways.right t
way_repeats t way.RightToEnd a = Ways.right_to_end t
way_repeats t way.SpaceFwd a = Ways.space t
way_repeats t way.BackspaceBack a = Ways.backspace t
way_repeats t way.SectionBackward a = Ways.section_backward t
way_repeats t way.SectionForward a = Ways.section_forward t
way_repeats t way.SectionEndBackward a = Ways.section_end_backward t
way_repeats t way.SectionEndForward a = Ways.section_end_forward t
way_repeats t way.NextLine a = Ways.next_line_lem t
way_repeats t way.PrevLine a = Ways.prev_line_lem t
way_repeats t way.ParagraphPrev a = absurd a
way_repeats t way.ParagraphNext a = absurd a
way_repeats t way.LineStart a = absurd a
way_repeats t way.FirstNonBlank a = absurd a
way_repeats t way.LineEnd a = absurd a
way_repeats t way.GotoColumn a = absurd a
way_repeats t way.LastNonBlank a = absurd a
way_repeats t way.ThisLine a = absurd a
way_repeats t way.Top a = absurd a
way_repeats t way.Bottom a = absurd a

-- where `j` and `k` lead to
abbrev rows_caret : Ambiguous → List ℕ → List ℕ → ℕ → Bool → ℕ → Caret → Caret
rows_caret a t folds tabstop down n k = at_target (move_vertical (width_as a) t folds tabstop (delta_of down n) k.row k.col k.sticky)

module _ (t folds list : List ℕ) (tabstop m n : ℕ) (h : 0 < m) (l : 0 < n) (k : Caret) where
  way_sums : (w : Way) → WayAdds w → Sums (moving (refusal_of t k) (put k (gone t w m (here k))))
      (λ c. moving (refusal_of t c) (put c (gone t w n (here c)))) (moving (refusal_of t k) (put k (gone t w (m + n) (here k))))
  way_sums w a =
      let first = put k (gone t w m (here k)) in
      moving_sums (refusal_of t k) first _ (refusal_of t) (λ c. put c (gone t w n (here c))) (λ z. (
        taken t k first [] z (way_lands t k w m first (moving_yes (refusal_of t k) first z)),
        ap (put k) (sym (Ways.way_adds (way_repeats t w a) m n (here k) h l)),
      ))

  word_sums : (own : List ℕ) (big : Bool) (motion : Motion) (stop : Bool) →
      Sums (move_word t own list big motion stop m k) (λ c. move_word t own list big motion false n c) (move_word t own list big motion stop (m + n) k)
  word_sums own big motion stop =
      let first = word_caret t own (in_list list) big motion stop m k in
      moving_sums (word_refusal t own list k) first _ (word_refusal t own list) (word_caret t own (in_list list) big motion false n) (λ z.
      let rest = fold_refusal own (row_count t) ∷ (parse_of list).refusal ∷ [] in
      let after_text = (lowest_none (text_refusal t) (caret_refusal t k ∷ rest) z).1 in
      let good = (lowest_none (fold_refusal own (row_count t)) ((parse_of list).refusal ∷ []) (lowest_none (caret_refusal t k) rest after_text).1).0 in (
        taken t k first rest z (word_lands t own list k big motion stop m first (moving_yes (word_refusal t own list k) first z)),
        ap (at_place k) (sym (word_counts_add t own (kind_of (in_list list) big) big good motion stop m n (here k) h l)),
      ))

  rows_sums : (a : Ambiguous) (down : Bool) →
      Sums (move_rows a t folds tabstop down m k) (λ c. move_rows a t folds tabstop down n c) (move_rows a t folds tabstop down (m + n) k)
  rows_sums a down =
      let refusal = vertical_refusal t folds tabstop in
      let first = rows_caret a t folds tabstop down m k in
      moving_sums (refusal k) first (rows_caret a t folds tabstop down (m + n) k) refusal (rows_caret a t folds tabstop down n) (λ z. (
        taken t k first (fold_refusal folds (row_count t) ∷ stop_refusal tabstop ∷ []) z
            (rows_lands t folds tabstop k a down m first (moving_yes (refusal k) first z)),
        ap at_target (vertical_adds (width_as a) t folds tabstop down m n k.row k.col k.sticky h l),
      ))

  kept_sums : (a : Ambiguous) (mode : Wrap) (width : ℕ) (down : Bool) →
      Sums (move_screen_rows_kept a t folds tabstop mode width down m k) (λ c. move_screen_rows_kept a t folds tabstop mode width down n c)
      (move_screen_rows_kept a t folds tabstop mode width down (m + n) k)
  kept_sums a mode width down =
      let refusal = vertical_refusal t folds tabstop in
      let first = kept_caret a t folds tabstop mode width down m k in
      moving_sums (refusal k) first (kept_caret a t folds tabstop mode width down (m + n) k) refusal (kept_caret a t folds tabstop mode width down n) (λ z. (
        taken t k first (fold_refusal folds (row_count t) ∷ stop_refusal tabstop ∷ []) z
            (kept_lands t folds tabstop k a mode width down m first (moving_yes (refusal k) first z)),
        ap at_kept (kept_adds (width_as a) t folds tabstop mode width down m n k.row k.col k.sticky k.offset h l),
      ))

pub counts_add : CountsAdd
counts_add t folds list tabstop (By w) a m n h l s k = way_sums t folds list tabstop m n h l k w a
counts_add t folds list tabstop (Word motion big stop) a m n h l s k = word_sums t folds list tabstop m n h l k (folds_of motion folds) big motion stop
counts_add t folds list tabstop (Rows down w) a m n h l s k = rows_sums t folds list tabstop m n h l k w down
counts_add t folds list tabstop (Screen mode width down w) a m n h l s k = absurd a
counts_add t folds list tabstop (ScreenKept mode width down w) a m n h l s k = kept_sums t folds list tabstop m n h l k w mode width down
counts_add t folds list tabstop (Viewport edge top height offset) a m n h l s k = absurd a
counts_add t folds list tabstop Bracket a m n h l s k = absurd a
counts_add t folds list tabstop (Find x forward till skip) a m n h l s k = absurd a
