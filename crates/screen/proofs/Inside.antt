-- From a place in the text every screen motion leads to a place in the text. Assumes nothing.
use Rattle.lists.proofs.Kit.{◌≡◌, refl, subst, List, Bool, true, false, cond, ◌||◌, ℕ, ◌+◌, ◌≤◌, ◌<◌, max, ℕ_discrete, arith, eqb, ltb, eq-eqb, ne_eqb, Option, Some, None}
use Rattle.chars.specs.White.{is_white}
use Rattle.row_wrap.specs.declared.Wrap.{Wrap}
use Rattle.row_wrap.specs.Modes.{is_none, segments_of}
use Rattle.text.specs.Text.{row_count, row_at, content_rows}
use Rattle.folds.specs.Folds.{closed_fold_at}
use Rattle.text.proofs.Content.{content_near}
use Rattle.vertical.specs.declared.Target.{Target}
use Rattle.visible_rows.specs.Visible.{toward, delta_of, shift}
use Rattle.vertical.specs.Moves.{move_vertical}
use Rattle.visible_rows.proofs.Visible.{toward_within}
use Rattle.lists.proofs.Rounds.{rounds_keep}
use Rattle.vertical.proofs.Inside.{Inside, rows_inside}
use Rattle.text.specs.declared.Position.{Position}
use Rattle.screen_segments.specs.Parts.{segment_count, ahead_of}
use Rattle.screen.specs.Screen.{seat_of, on_segment, entered, step_screen, jumped_to, out_of, jumped}
use Rattle.screen.specs.Screen.{move_screen}
use Rattle.screen.specs.Keeping.{starts_at, unkept, screen_kept, move_screen_kept}
use Rattle.screen.proofs.Spans.{end_within}
use Rattle.screen.proofs.Keeping.{absent_target}

-- `gj` and `gk`, whatever the way that rows are broken
module _ (t folds : List ℕ) (lay : List ℕ → List ℕ) (down : Bool) where
  segment_inside : (offset row j : ℕ) → row < row_count t → Inside t row (on_segment t lay offset row j).col
  segment_inside offset row j h = record { in_row = h; in_col = omega arith }

  pub round_inside : (offset : ℕ) (p : Position) → Inside t p.row p.col →
      Inside t (step_screen t folds lay down offset p).row (step_screen t folds lay down offset p).col
  unfolding step_screen
  round_inside offset p i = go (ltb 0 (ahead_of down (segment_count (lay (row_at t p.row))) (seat_of t lay p)))
    where
      into : (v : Option ℕ) → toward folds (row_count t) down p.row ≡ v → Inside t (entered t lay down offset p v).row (entered t lay down offset p v).col
      into (Some x) e = segment_inside offset x _ (toward_within folds (row_count t) down p.row x i.in_row e)
      into None e = i

      go : (b : Bool) → let choice = cond b (on_segment t lay offset p.row (shift down (seat_of t lay p) 1))
          (entered t lay down offset p (toward folds (row_count t) down p.row)) in Inside t choice.row choice.col
      go true = segment_inside offset p.row (shift down (seat_of t lay p) 1) i.in_row
      go false = into (toward folds (row_count t) down p.row) refl

pub jump_inside : (t folds : List ℕ) (down : Bool) (p : Position) → Inside t p.row p.col →
    Inside t (jumped t folds down p).row (jumped t folds down p).col
jump_inside t folds down p i = go (closed_fold_at folds (row_count t) (content_rows t) p.row) refl
  where
    near : (row_count t ≤ content_rows t + 1) × (content_rows t ≤ row_count t) × (0 < content_rows t)
    near = content_near t

    to : (row : ℕ) → row < row_count t → Dec (row ≡ p.row) → Inside t (jumped_to t p row).row (jumped_to t p row).col
    to row h (yes e) = rw (eq-eqb row p.row e) i
    to row h (no n) = rw (ne_eqb row p.row n) (record { in_row = h; in_col = omega arith })

    go : (s : Option (ℕ × ℕ)) → closed_fold_at folds (row_count t) (content_rows t) p.row ≡ s → Inside t (out_of t down p s).row (out_of t down p s).col
    go None e = i
    go (Some (a, b)) e =
        let row = cond down b a in
        to row (end_within folds (row_count t) (content_rows t) (omega (arith, near)) (omega (arith, near)) down p.row a b i.in_row e)
        (ℕ_discrete row p.row)

-- a whole call, with an offset or without one
pub kept_inside : (w : ℕ → ℕ) (t folds : List ℕ) (tabstop row col : ℕ) (sticky : Option ℕ) (offset : Option ℕ) (mode : Wrap) (width : ℕ) (down : Bool) (count : ℕ) →
    Inside t row col →
    let move_screen_kept_lem = (move_screen_kept w t folds tabstop mode width down count row col sticky offset).target in
    Inside t move_screen_kept_lem.row move_screen_kept_lem.col
kept_inside w t folds tabstop row col sticky offset mode width down count i = go (eqb width 0 || is_none mode)
  where
    starts : (o : Option ℕ) → let the_starts = starts_at t folds down o (record { row = row; col = col }) in Inside t the_starts.row the_starts.col
    starts None = jump_inside t folds down (record { row = row; col = col }) i
    starts (Some x) = i

    go : (b : Bool) → let choice = (cond b (unkept (move_vertical w t folds tabstop (delta_of down count) row col sticky))
        (screen_kept w t folds tabstop (segments_of w is_white mode width) down count row col sticky offset)).target in Inside t choice.row choice.col
    go true = rows_inside w t folds tabstop row col sticky (delta_of down count) i
    go false = rounds_keep (λ q. Inside t q.row q.col) _ (round_inside t folds _ down _) (max count 1) _ (starts offset)

-- and so of `gj` and `gk`
pub move_inside : (w : ℕ → ℕ) (t folds : List ℕ) (tabstop row col : ℕ) (sticky : Option ℕ) (mode : Wrap) (width : ℕ) (down : Bool) (count : ℕ) →
    Inside t row col →
    let move_screen_lem = move_screen w t folds tabstop mode width down count row col sticky in Inside t move_screen_lem.row move_screen_lem.col
move_inside w t folds tabstop row col sticky mode width down count i =
    subst (λ (p : Target). Inside t p.row p.col) (absent_target w t folds tabstop mode width down count row col sticky)
    (kept_inside w t folds tabstop row col sticky None mode width down count i)
