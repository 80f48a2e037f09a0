-- The word motions by the classes and the folds alone, round by round: the jump out of a closed fold, one word, and the rounds of a count. Document 02,
-- #113. Definitions only. Long, since the four motions share their jumps. Assumes nothing.
use Rattle.std.specs.Prelude.{ℕ, zero, suc, ◌+◌, ◌-◌, ◌≤◌, ◌<◌, max, ◌≡◌, List, Bool, false, cond, ◌&&◌, length, Option, Some, None}
use Rattle.text.specs.Text.{position}
use Rattle.text.specs.declared.Position.{Position}
use Rattle.folds.specs.Folds.{fold_refusal, closed_fold_at}
use Rattle.fold_stretches.specs.declared.Stretch.{Stretch}
use Rattle.fold_stretches.specs.Stretches.{NoFold}
use Rattle.word_kinds.specs.declared.Spot.{Spot}
use Rattle.word_rounds.specs.declared.Motion.{Motion}
use Rattle.word_rounds.specs.declared.Motion.TheVariants.{Fwd, Back, End, EndBack}
use Rattle.word_hops.specs.Hops.{next_start, prev_start, next_end, prev_end, at_end}
use Rattle.word_class_rows.specs.Rows.{row_of, rows_of, content_of, start_of, last_of, Stands}
use Rattle.word_class_laws.specs.Determines.{Classes}
use Rattle.word_ends.specs.declared.Turn.{Turn}
use Rattle.word_ends.specs.declared.Turn.TheVariants.{On, Off}

-- out of a closed fold: to the last character of its last row, or to the first place of its first row
abbrev pub fold_at : List ℕ → List ℕ → ℕ → Option (ℕ × ℕ)
fold_at c folds i = closed_fold_at folds (rows_of c) (content_of c) (row_of c i)

abbrev pub to_last : List ℕ → ℕ → Option (ℕ × ℕ) → ℕ
to_last c i (Some (first, last)) = last_of c last
to_last c i None = i

abbrev pub to_first : List ℕ → ℕ → Option (ℕ × ℕ) → ℕ
to_first c i (Some (first, last)) = start_of c first
to_first c i None = i

abbrev pub jump_fwd : List ℕ → List ℕ → ℕ → ℕ
jump_fwd c folds i = to_last c i (fold_at c folds i)

abbrev pub jump_back : List ℕ → List ℕ → ℕ → ℕ
jump_back c folds i = to_first c i (fold_at c folds i)

-- a word found, or no more rounds: the place where the jump went is kept
abbrev pub turn : ℕ → Option ℕ → Turn ℕ
turn from (Some j) = On j
turn from None = Off from

abbrev pub end_turn : List ℕ → Bool → Bool → ℕ → Turn ℕ
end_turn c big stop from = cond (stop && at_end c big from) (On from) (turn from (next_end c big from))

-- one round of a motion
unfoldable pub round_of : List ℕ → List ℕ → Bool → Motion → Bool → ℕ → Turn ℕ
round_of c folds big Fwd stop i = turn (jump_fwd c folds i) (next_start c big (jump_fwd c folds i))
round_of c folds big Back stop i = turn (jump_back c folds i) (prev_start c big (jump_back c folds i))
round_of c folds big End stop i = end_turn c big stop (jump_fwd c folds i)
round_of c folds big EndBack stop i = turn i (prev_end c big i)

-- n rounds, or fewer where one ends them
abbrev pub after : Turn ℕ → (ℕ → ℕ) → ℕ
after (On j) f = f j
after (Off j) f = j

unfoldable pub counted : (ℕ → Turn ℕ) → ℕ → ℕ → ℕ
counted round zero i = i
counted round (suc n) i = after (round i) (counted round n)

-- the motion: count 0 acts as 1, and `stop` holds in the first round alone
unfoldable pub motion : List ℕ → List ℕ → Bool → Motion → Bool → ℕ → ℕ → ℕ
motion c folds big m stop count i = after (round_of c folds big m stop i) (counted (round_of c folds big m false) (max count 1 - 1))

-- a place as a row and a column
abbrev pub position_of : List ℕ → ℕ → Position
position_of c i = position (row_of c i) (i - start_of c (row_of c i))

-- what the way to a row requires: a spot to begin at, and the row
pub record RowFrom (c : List ℕ) (p : Spot) (row : ℕ) : Type 0 where
  pub stands : Stands c p
  pub in_row : row < rows_of c

-- and that the slice holds classes, where the row may be empty
pub record ClassRow (c : List ℕ) (p : Spot) (row : ℕ) : Type 0 where
  pub classes : Classes c
  pub from : RowFrom c p row

-- what a round requires: the slice holds classes, the folds are accepted, and the spot is one of its places
pub record Ready (c folds : List ℕ) (rows content : ℕ) (p : Spot) : Type 0 where
  pub classes : Classes c
  pub good : fold_refusal folds rows ≡ 0
  pub all_rows : rows ≡ rows_of c
  pub content_rows : content ≡ content_of c
  pub stands : Stands c p
  pub inside : p.at + 1 ≤ length c

-- and with a stretch of rows without closed folds
pub record Near (c folds : List ℕ) (rows content : ℕ) (w : Stretch) (p : Spot) : Type 0 where
  pub ready : Ready c folds rows content p
  pub bare : NoFold folds w

-- and a motion from a row and a column: they are those of a place
pub record Asked (c folds : List ℕ) (p : Position) : Type 0 where
  pub classes : Classes c
  pub good : fold_refusal folds (rows_of c) ≡ 0
  pub in_row : p.row < rows_of c
  pub inside : start_of c p.row + p.col < length c
  pub row_is : p.row ≡ row_of c (start_of c p.row + p.col)
