-- `gj` and `gk` under wrap: `move_screen_vertical` and `step_screen` of motions.rs, round by round. `lay` is how a row is broken: start, end, start, end ..
-- `w` is any width function. -- Definitions only; the laws are in `proofs/ScreenRounds.antt`. Assumes nothing.
use Rattle.std.specs.Prelude.{ℕ, ◌+◌, ◌-◌, ◌*◌, min, max, List, Bool, cond, ◌||◌, eqb, ltb, get_or, Option, Some, None}
use Rattle.chars.specs.White.{is_white}
use Rattle.row_wrap.specs.declared.Wrap.{Wrap}
use Rattle.row_wrap.specs.Modes.{is_none, segments_of}
use Rattle.row_cells.specs.Offsets.{segment_index}
use Rattle.text.specs.Text.{row_count, row_at, row_len, content_rows, last_col}
use Rattle.folds.specs.Folds.{closed_fold_at}
use Rattle.screen_segments.specs.Parts.{clamp_to, segment_count, ahead_of, offset_in}
use Rattle.text.specs.declared.Position.{Position}
use Rattle.vertical.specs.declared.Target.{Target}
use Rattle.lists.specs.Rounds.{rounds}
use Rattle.visible_rows.specs.Visible.{toward, delta_of, shift}
use Rattle.vertical.specs.Moves.{wanted_col, move_vertical}

-- the place at that offset in segment j of a row
abbrev pub on_segment : List ℕ → (List ℕ → List ℕ) → ℕ → ℕ → ℕ → Position
on_segment t lay offset row j =
    let segs = lay (row_at t row) in record { row = row; col = clamp_to (get_or segs (2 * j) 0) (get_or segs (2 * j + 1) 0) offset (row_len t row) }

-- into another row by its first segment, or upwards by its last; no row is left, and the place stays
abbrev pub entered : List ℕ → (List ℕ → List ℕ) → Bool → ℕ → Position → Option ℕ → Position
entered t lay down offset p (Some row) = on_segment t lay offset row (ahead_of down (segment_count (lay (row_at t row))) (segment_count (lay (row_at t row)) - 1))
entered t lay down offset p None = p

abbrev pub seat_of : List ℕ → (List ℕ → List ℕ) → Position → ℕ
seat_of t lay p = segment_index (lay (row_at t p.row)) p.col

-- one round: the next segment of the row, or a row further
unfoldable pub step_screen : List ℕ → List ℕ → (List ℕ → List ℕ) → Bool → ℕ → Position → Position
step_screen t folds lay down offset p =
    cond (ltb 0 (ahead_of down (segment_count (lay (row_at t p.row))) (seat_of t lay p))) (on_segment t lay offset p.row (shift down (seat_of t lay p) 1))
    (entered t lay down offset p (toward folds (row_count t) down p.row))

-- from a closed fold the way goes on from its last row, and upwards from its first, at the column or the row's last one
abbrev pub jumped_to : List ℕ → Position → ℕ → Position
jumped_to t p row = cond (eqb row p.row) p (record { row = row; col = min p.col (last_col t row) })

abbrev pub out_of : List ℕ → Bool → Position → Option (ℕ × ℕ) → Position
out_of t down p None = p
out_of t down p (Some (first, last)) = jumped_to t p (cond down last first)

abbrev pub jumped : List ℕ → List ℕ → Bool → Position → Position
jumped t folds down p = out_of t down p (closed_fold_at folds (row_count t) (content_rows t) p.row)

-- the rounds of a count
abbrev pub screen_from : List ℕ → List ℕ → (List ℕ → List ℕ) → Bool → ℕ → Position → Position
screen_from t folds lay down n p = rounds (step_screen t folds lay down (offset_in (lay (row_at t p.row)) (row_at t p.row) p.col)) n p

-- the sticky column is set and not used
abbrev pub landed_at : ℕ → Position → Target
landed_at want p = record { row = p.row; col = p.col; want = want }

abbrev pub screen_target : (ℕ → ℕ) → List ℕ → List ℕ → ℕ → (List ℕ → List ℕ) → Bool → ℕ → ℕ → ℕ → Option ℕ → Target
screen_target w t folds tabstop lay down count row col sticky =
    landed_at (wanted_col w t tabstop row col sticky) (screen_from t folds lay down (max count 1) (jumped t folds down (record { row = row; col = col })))

-- with mode None or width 0 the move is that of `j` and `k`
abbrev pub move_screen : (ℕ → ℕ) → List ℕ → List ℕ → ℕ → Wrap → ℕ → Bool → ℕ → ℕ → ℕ → Option ℕ → Target
move_screen w t folds tabstop mode width down count row col sticky =
    cond (eqb width 0 || is_none mode) (move_vertical w t folds tabstop (delta_of down count) row col sticky)
    (screen_target w t folds tabstop (segments_of w is_white mode width) down count row col sticky)
