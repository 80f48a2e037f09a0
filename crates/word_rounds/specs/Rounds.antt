-- The word motions, round by round: the jump out of a closed fold, one word, and the rounds of a count. "Word motions" of motions.rs.
-- Definitions only; counts that add and rounds that change nothing are laws of `proofs/Counts.antt`. Assumes nothing.
use Rattle.std.specs.Prelude.{ℕ, zero, suc, ◌-◌, max, List, Bool, false, cond, ◌&&◌, Option, Some, None}
use Rattle.text.specs.Text.{row_count, row_len, content_rows, position}
use Rattle.text.specs.declared.Position.{Position}
use Rattle.folds.specs.Folds.{closed_fold_at}
use Rattle.word_kinds.specs.Places.{Step, To, Nowhere}
use Rattle.word_edges.specs.Words.{next_word_start, prev_word_start, next_word_end, prev_word_end, at_word_end}
use Rattle.word_rounds.specs.declared.Motion.{Motion}
use Rattle.word_rounds.specs.declared.Motion.TheVariants.{Fwd, Back, End, EndBack}

-- how a round ends: at a place from which the next goes on, or with the last place, and no more rounds
pub data Turn : Type 0 where
  On : Position → Turn
  Off : Position → Turn

-- `fold_jump_fwd`: from a closed fold to the last character of its last row; `fold_jump_back`: to the first place of its first row
abbrev pub to_last : List ℕ → Position → Option (ℕ × ℕ) → Position
to_last t p (Some (first, last)) = position last (row_len t last - 1)
to_last t p None = p

abbrev pub to_first : Position → Option (ℕ × ℕ) → Position
to_first p (Some (first, last)) = position first 0
to_first p None = p

abbrev pub fold_at : List ℕ → List ℕ → Position → Option (ℕ × ℕ)
fold_at t folds p = closed_fold_at folds (row_count t) (content_rows t) p.row

abbrev pub jump_fwd : List ℕ → List ℕ → Position → Position
jump_fwd t folds p = to_last t p (fold_at t folds p)

abbrev pub jump_back : List ℕ → List ℕ → Position → Position
jump_back t folds p = to_first p (fold_at t folds p)

-- a word found, or no more rounds: the place where the fold's jump went is kept
abbrev pub turn : Position → Step → Turn
turn from (To q) = On q
turn from Nowhere = Off from

-- the round of `move_word_end`, where `stop` holds it at the end of a word
abbrev pub end_turn : List ℕ → (ℕ → ℕ) → Bool → Position → Turn
end_turn t kind stop from = cond (stop && at_word_end t kind from) (On from) (turn from (next_word_end t kind from))

-- one round of a motion
unfoldable pub round_of : List ℕ → List ℕ → (ℕ → ℕ) → Bool → Motion → Bool → Position → Turn
round_of t folds kind big Fwd stop p = turn (jump_fwd t folds p) (next_word_start t kind big (jump_fwd t folds p))
round_of t folds kind big Back stop p = turn (jump_back t folds p) (prev_word_start t kind (jump_back t folds p))
round_of t folds kind big End stop p = end_turn t kind stop (jump_fwd t folds p)
round_of t folds kind big EndBack stop p = turn p (prev_word_end t kind p)

-- n rounds, or fewer where one ends them
abbrev pub after : Turn → (Position → Position) → Position
after (On q) f = f q
after (Off q) f = q

unfoldable pub counted : (Position → Turn) → ℕ → Position → Position
counted round zero p = p
counted round (suc n) p = after (round p) (counted round n)

-- the motion: count 0 acts as 1, and `stop` holds in the first round alone
unfoldable pub word_motion : List ℕ → List ℕ → (ℕ → ℕ) → Bool → Motion → Bool → ℕ → Position → Position
word_motion t folds kind big m stop count p =
    after (round_of t folds kind big m stop p) (counted (round_of t folds kind big m false) (max count 1 - 1))
