-- Worked examples of the definitions, as theorems: each holds by computation. Slips that document 01 names. Assumes nothing.
use Rattle.lists.proofs.Kit.{◌≡◌, refl, [], ◌∷◌, true, false, cond, ℕ, eqb}
use Rattle.text.specs.Text.{on_first, rows, position}
use Rattle.folds.specs.Folds.{any_fold, visible_from}
use Rattle.word_rounds.specs.declared.Motion.TheVariants.{Fwd, End}
use Rattle.word_kinds.specs.Places.{kind_at, next_row, step_forward, end_of_buffer}
use Rattle.word_loops.specs.Walks.{walk, goes_on}
use Rattle.word_edges.specs.Words.{next_word_start, next_word_end, at_word_end}
use Rattle.word_rounds.specs.Rounds.{round_of, counted, word_motion}

-- a space, and words
abbrev kind : ℕ → ℕ
kind x = cond (eqb x 32) 0 1

-- `a`, empty, and the empty last row, the first two in a closed fold: the jump is kept though no word follows
pub jump_kept : word_motion (97 ∷ 10 ∷ 10 ∷ []) (0 ∷ 1 ∷ 1 ∷ []) kind false Fwd false 1 (position 0 0) ≡ position 1 0
unfolding on_first rows any_fold visible_from kind_at next_row step_forward end_of_buffer walk goes_on next_word_start next_word_end at_word_end round_of counted word_motion
jump_kept = refl

-- `ab`, `cd`: a word ends with its row
pub word_ends_with_row : word_motion (97 ∷ 98 ∷ 10 ∷ 99 ∷ 100 ∷ []) [] kind false End false 1 (position 0 0) ≡ position 0 1
unfolding on_first rows any_fold visible_from kind_at next_row step_forward end_of_buffer walk goes_on next_word_start next_word_end at_word_end round_of counted word_motion
word_ends_with_row = refl

-- `a b`: `stop` holds the first round alone
pub stop_holds_once : word_motion (97 ∷ 32 ∷ 98 ∷ []) [] kind false End true 2 (position 0 0) ≡ position 0 2
unfolding on_first rows any_fold visible_from kind_at next_row step_forward end_of_buffer walk goes_on next_word_start next_word_end at_word_end round_of counted word_motion
stop_holds_once = refl
