-- The caret of an accepted vertical, screen or viewport motion stands in the text. Assumes nothing.
use Rattle.lists.proofs.Kit.{◌≡◌, List, [], ◌∷◌, Bool, ℕ}
use Rattle.widths.specs.declared.Ambiguous.{Ambiguous}
use Rattle.widths.specs.Widths.{width_as}
use Rattle.text_check.specs.Accept.{text_refusal}
use Rattle.text.specs.Text.{row_count}
use Rattle.folds.specs.Folds.{fold_refusal}
use Rattle.row_wrap.specs.declared.Wrap.{Wrap}
use Rattle.visible_rows.specs.Visible.{delta_of}
use Rattle.vertical.proofs.Inside.{rows_inside}
use Rattle.vertical.proofs.Edges.{viewport_within}
use Rattle.vertical.specs.declared.Edge.{Edge}
use Rattle.screen.proofs.Inside.{kept_inside, move_inside}
use Rattle.text_moves.proofs.Staying.{row_in}
use Rattle.motions.specs.declared.Caret.{Caret}
use Rattle.motions.specs.Carets.{refusal_of, Inside}
use Rattle.motions.specs.UpDown.{stop_refusal, vertical_refusal, move_rows, move_screen_rows, move_screen_rows_kept}
use Rattle.motions.specs.ViewportMoves.{move_viewport}
use Rattle.motions.proofs.Landing.{Lands, moving_lands, caret_in_lem}

module _ (t folds : List ℕ) (tabstop : ℕ) (k : Caret) where
  pub own : vertical_refusal t folds tabstop k ≡ 0 → Inside t k
  own z = caret_in_lem t k (text_refusal t) (fold_refusal folds (row_count t) ∷ stop_refusal tabstop ∷ []) z

  pub rows_lands : (a : Ambiguous) (down : Bool) (count : ℕ) → Lands t (move_rows a t folds tabstop down count k)
  rows_lands a down count = moving_lands t (vertical_refusal t folds tabstop k) _ (λ z.
      let by_own = own z in
      let by_rows_inside = rows_inside (width_as a) t folds tabstop k.row k.col k.sticky (delta_of down count)
      (record { in_row = by_own.in_row; in_col = by_own.in_col }) in
      record { in_row = by_rows_inside.in_row; in_col = by_rows_inside.in_col })

  pub screen_lands : (a : Ambiguous) (mode : Wrap) (width : ℕ) (down : Bool) (count : ℕ) → Lands t (move_screen_rows a t folds tabstop mode width down count k)
  screen_lands a mode width down count = moving_lands t (vertical_refusal t folds tabstop k) _ (λ z.
      let by_own = own z in
      let by_move_inside = move_inside (width_as a) t folds tabstop k.row k.col k.sticky mode width down count
      (record { in_row = by_own.in_row; in_col = by_own.in_col }) in
      record { in_row = by_move_inside.in_row; in_col = by_move_inside.in_col })

  pub kept_lands : (a : Ambiguous) (mode : Wrap) (width : ℕ) (down : Bool) (count : ℕ) → Lands t (move_screen_rows_kept a t folds tabstop mode width down count k)
  kept_lands a mode width down count = moving_lands t (vertical_refusal t folds tabstop k) _ (λ z.
      let by_own = own z in
      let by_kept_inside = kept_inside (width_as a) t folds tabstop k.row k.col k.sticky k.offset mode width down count
      (record { in_row = by_own.in_row; in_col = by_own.in_col }) in
      record { in_row = by_kept_inside.in_row; in_col = by_kept_inside.in_col })

-- an edge of any viewport
pub viewport_lands : (t : List ℕ) (k : Caret) (edge : Edge) (top height offset : ℕ) → Lands t (move_viewport t edge top height offset k)
viewport_lands t k edge top height offset = moving_lands t (refusal_of t k) _ (λ z. row_in t _ (viewport_within t edge top height offset))
