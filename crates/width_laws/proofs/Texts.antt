-- Where two width functions agree on a text, up, down and the screen moves lead to the same places. Assumes nothing.
use Rattle.lists.proofs.Kit.{◌≡◌, refl, ap, List, Bool, cond, ◌||◌, ℕ, max, eqb, ltb, Option, Some, None}
use lib.IntN.{ℤ}
use Rattle.chars.specs.White.{is_white}
use Rattle.text.specs.declared.Position.{Position}
use Rattle.text.specs.Text.{row_count, row_at}
use Rattle.lists.specs.Rounds.{rounds}
use Rattle.row_wrap.specs.declared.Wrap.{Wrap}
use Rattle.row_wrap.specs.Modes.{is_none, segments_of}
use Rattle.visible_rows.specs.Visible.{toward, vertical_row, delta_of, shift}
use Rattle.vertical.specs.Moves.{wanted_col, landed, move_vertical}
use Rattle.screen_segments.specs.Parts.{segment_count, ahead_of, offset_in}
use Rattle.screen.specs.Screen.{on_segment, entered, seat_of, step_screen, jumped, screen_from, landed_at, move_screen}
use Rattle.screen.specs.declared.Glided.{Glided}
use Rattle.screen.specs.Keeping.{starts_at, or_own, glided, unkept, move_screen_kept}
use Rattle.width_laws.proofs.Agree.{Agree, agree_row}
use Rattle.width_laws.proofs.Columns.{char_same, cursor_same}
use Rattle.width_laws.proofs.Cells.{segments_same}

-- two ways to break the rows of a text that are the same there
module _ (t folds : List ℕ) (f g : List ℕ → List ℕ) (same : (r : ℕ) → f (row_at t r) ≡ g (row_at t r)) (down : Bool) where
  entered_same : (offset : ℕ) (p : Position) (to : Option ℕ) → entered t f down offset p to ≡ entered t g down offset p to
  entered_same offset p (Some r) = rw (same r)
  entered_same offset p None = refl

  step_same : (offset : ℕ) (p : Position) → step_screen t folds f down offset p ≡ step_screen t folds g down offset p
  unfolding step_screen
  step_same offset p = rw (same p.row)
      (ap (λ (q : Position). cond (ltb 0 (ahead_of down (segment_count (g (row_at t p.row))) (seat_of t g p))) (on_segment t g offset p.row
      (shift down (seat_of t g p) 1)) q)
      (entered_same offset p (toward folds (row_count t) down p.row)))

  pub from_same : (n : ℕ) (p : Position) → screen_from t folds f down n p ≡ screen_from t folds g down n p
  from_same n p = rw (same p.row) (ap (λ (step : Position → Position). rounds step n p)
      (λ i q. step_same (offset_in (g (row_at t p.row)) (row_at t p.row) p.col) q i))

  pub glided_same : (n : ℕ) (offset : Option ℕ) (p : Position) → glided t folds f down n offset p ≡ glided t folds g down n offset p
  glided_same n offset p =
      let kept = or_own offset (offset_in (g (row_at t p.row)) (row_at t p.row) p.col) in
      rw (same p.row) (ap (λ (step : Position → Position). record { place = rounds step n p; offset = kept }) (λ i q. step_same kept q i))

module _ (w v : ℕ → ℕ) (t : List ℕ) (a : Agree w v t) where
  wanted_same : (tabstop row col : ℕ) (sticky : Option ℕ) → wanted_col w t tabstop row col sticky ≡ wanted_col v t tabstop row col sticky
  wanted_same tabstop row col None = cursor_same w v tabstop (row_at t row) (agree_row w v t row a) col
  wanted_same tabstop row col (Some want) = refl

  pub vertical_same : (folds : List ℕ) (tabstop : ℕ) (delta : ℤ) (row col : ℕ) (sticky : Option ℕ) →
      move_vertical w t folds tabstop delta row col sticky ≡ move_vertical v t folds tabstop delta row col sticky
  unfolding landed
  vertical_same folds tabstop delta row col sticky =
      let target = vertical_row folds (row_count t) delta row in
      rw (wanted_same tabstop row col sticky, char_same w v tabstop (row_at t target) (agree_row w v t target a) (wanted_col v t tabstop row col sticky))

  pub screen_same : (folds : List ℕ) (tabstop : ℕ) (mode : Wrap) (width : ℕ) (down : Bool) (count row col : ℕ) (sticky : Option ℕ) →
      move_screen w t folds tabstop mode width down count row col sticky ≡ move_screen v t folds tabstop mode width down count row col sticky
  screen_same folds tabstop mode width down count row col sticky =
      let start = jumped t folds down (record { row = row; col = col }) in
      let lay = segments_of v is_white mode width in
      let one = from_same t folds (segments_of w is_white mode width) lay (λ r. segments_same w v is_white mode width (row_at t r) (agree_row w v t r a)) down
      (max count 1) start in
      rw (vertical_same folds tabstop (delta_of down count) row col sticky, wanted_same tabstop row col sticky, one)

  pub kept_same : (folds : List ℕ) (tabstop : ℕ) (mode : Wrap) (width : ℕ) (down : Bool) (count row col : ℕ) (sticky : Option ℕ) (offset : Option ℕ) →
      move_screen_kept w t folds tabstop mode width down count row col sticky offset ≡ move_screen_kept v t folds tabstop mode width down count row col sticky
      offset
  kept_same folds tabstop mode width down count row col sticky offset =
      let start = starts_at t folds down offset (record { row = row; col = col }) in
      let lay = segments_of v is_white mode width in
      let one = glided_same t folds (segments_of w is_white mode width) lay (λ r. segments_same w v is_white mode width (row_at t r) (agree_row w v t r a)) down
      (max count 1) offset start in
      rw (vertical_same folds tabstop (delta_of down count) row col sticky, wanted_same tabstop row col sticky)
      (ap (λ (g : Glided). cond (eqb width 0 || is_none mode) (unkept (move_vertical v t folds tabstop (delta_of down count) row col sticky))
      (record { target = landed_at (wanted_col v t tabstop row col sticky) g.place; offset = Some g.offset })) one)
