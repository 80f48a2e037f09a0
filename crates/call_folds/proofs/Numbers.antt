-- The calls number by number: each answers as the method that it stands for. All hold by computation. Assumes nothing.
use Rattle.lists.proofs.Kit.{◌≡◌, refl, List, [], Bool, true, false, ℕ}
use Rattle.widths.specs.declared.Ambiguous.TheVariants.{Narrow, Wide}
use Rattle.row_wrap.specs.declared.Wrap.{Wrap}
use Rattle.word_rounds.specs.declared.Motion.TheVariants.{Fwd, Back, End, EndBack}
use Rattle.motions.specs.declared.Caret.{Caret}
use Rattle.motions.specs.WordMoves.{move_word}
use Rattle.motions.specs.UpDown.{move_rows, move_screen_rows, move_screen_rows_kept}
use Rattle.call_texts.specs.Asks.{move_as}
use Rattle.call_folds.specs.Terms.{word_of, word}
use Rattle.call_folds.specs.Upright.{upright_of, upright}
use Rattle.call_folds.specs.Kept.{kept_of, remembered}

pub record Words (t folds list : List ℕ) (big : Bool) (n : ℕ) (k : Caret) : Type 0 where
  pub w0 : word 0 big n k t folds list ≡ move_word t folds list big Fwd false n k
  pub w1 : word 1 big n k t folds list ≡ move_word t folds list big Back false n k
  pub w2 : word 2 big n k t folds list ≡ move_word t folds list big End false n k
  pub w3 : word 3 big n k t folds list ≡ move_word t folds list big End true n k
  pub w4 : word 4 big n k t folds list ≡ move_word t [] list big EndBack false n k

pub word_numbers : (t folds list : List ℕ) (big : Bool) (n : ℕ) (k : Caret) → Words t folds list big n k
unfolding word word_of move_as
word_numbers t folds list big n k = record { w0 = refl; w1 = refl; w2 = refl; w3 = refl; w4 = refl }

pub record Uprights (t folds : List ℕ) (mode : Wrap) (width n tabstop : ℕ) (k : Caret) : Type 0 where
  pub u0 : upright 0 mode width n tabstop k t folds ≡ move_rows Narrow t folds tabstop false n k
  pub u1 : upright 1 mode width n tabstop k t folds ≡ move_rows Narrow t folds tabstop true n k
  pub u2 : upright 2 mode width n tabstop k t folds ≡ move_screen_rows Narrow t folds tabstop mode width false n k
  pub u3 : upright 3 mode width n tabstop k t folds ≡ move_screen_rows Narrow t folds tabstop mode width true n k
  -- with the flag
  pub u256 : upright 256 mode width n tabstop k t folds ≡ move_rows Wide t folds tabstop false n k
  pub u257 : upright 257 mode width n tabstop k t folds ≡ move_rows Wide t folds tabstop true n k
  pub u258 : upright 258 mode width n tabstop k t folds ≡ move_screen_rows Wide t folds tabstop mode width false n k
  pub u259 : upright 259 mode width n tabstop k t folds ≡ move_screen_rows Wide t folds tabstop mode width true n k

pub upright_numbers : (t folds : List ℕ) (mode : Wrap) (width n tabstop : ℕ) (k : Caret) → Uprights t folds mode width n tabstop k
unfolding upright upright_of move_as
upright_numbers t folds mode width n tabstop k =
    record { u0 = refl; u1 = refl; u2 = refl; u3 = refl; u256 = refl; u257 = refl; u258 = refl; u259 = refl }

pub record Remembered (t folds : List ℕ) (mode : Wrap) (width n tabstop : ℕ) (k : Caret) : Type 0 where
  pub r0 : remembered 0 mode width n tabstop k t folds ≡ move_screen_rows_kept Narrow t folds tabstop mode width false n k
  pub r1 : remembered 1 mode width n tabstop k t folds ≡ move_screen_rows_kept Narrow t folds tabstop mode width true n k
  -- with the flag
  pub r256 : remembered 256 mode width n tabstop k t folds ≡ move_screen_rows_kept Wide t folds tabstop mode width false n k
  pub r257 : remembered 257 mode width n tabstop k t folds ≡ move_screen_rows_kept Wide t folds tabstop mode width true n k

pub kept_numbers : (t folds : List ℕ) (mode : Wrap) (width n tabstop : ℕ) (k : Caret) → Remembered t folds mode width n tabstop k
unfolding remembered kept_of move_as
kept_numbers t folds mode width n tabstop k = record { r0 = refl; r1 = refl; r256 = refl; r257 = refl }
