-- From a call that no check refuses, a word motion leads to a caret in the text. Assumes nothing.
use Rattle.lists.proofs.Kit.{◌≡◌, List, [], ◌∷◌, Bool, ℕ}
use Rattle.text_check.specs.Accept.{text_refusal}
use Rattle.text.specs.Text.{row_count, position}
use Rattle.folds.specs.Folds.{fold_refusal}
use Rattle.list_tokens.specs.Tokens.{in_list}
use Rattle.keywords.specs.Table.{parse_of}
use Rattle.word_kinds.specs.Places.{kind_of}
use Rattle.word_loops.proofs.Within.{In}
use Rattle.word_rounds.specs.declared.Motion.{Motion}
use Rattle.word_rounds.specs.Rounds.{word_motion}
use Rattle.word_rounds.proofs.Inside.{word_motion_in}
use Rattle.motions.specs.declared.Caret.{Caret}
use Rattle.motions.specs.Carets.{Inside}
use Rattle.motions.specs.WordMoves.{word_refusal, word_caret, move_word}
use Rattle.motions.proofs.Landing.{Lands, moving_lands, caret_in_lem}

module _ (t folds list : List ℕ) (k : Caret) where
  pub word_lands : (big : Bool) (m : Motion) (stop : Bool) (count : ℕ) → Lands t (move_word t folds list big m stop count k)
  word_lands big m stop count = moving_lands t (word_refusal t folds list k) (word_caret t folds (in_list list) big m stop count k) there
    where
      there : word_refusal t folds list k ≡ 0 → Inside t (word_caret t folds (in_list list) big m stop count k)
      there e =
          let by_caret_in = caret_in_lem t k (text_refusal t) (fold_refusal folds (row_count t) ∷ (parse_of list).refusal ∷ []) e in
          let inside : In t (word_motion t folds (kind_of (in_list list) big) big m stop count (position k.row k.col)) =
          word_motion_in t folds (kind_of (in_list list) big) big m stop count (position k.row k.col)
          (record { in_row = by_caret_in.in_row; in_col = by_caret_in.in_col }) in
          record { in_row = inside.in_row; in_col = inside.in_col }
