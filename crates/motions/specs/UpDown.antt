-- Up, down and the screen on carets: the refusals of a call, and where the walks of `vertical` and `screen` lead to by the widths of a setting.
-- Motions.rs, "Vertical motions". Definitions only; the laws are in `proofs/Upright.antt`. Assumes nothing.
use Rattle.std.specs.Prelude.{ℕ, List, [], ◌∷◌, Bool, cond, ltb, Some}
use Rattle.widths.specs.declared.Ambiguous.{Ambiguous}
use Rattle.widths.specs.Widths.{width_as}
use Rattle.text_check.specs.Accept.{text_refusal}
use Rattle.text.specs.Text.{row_count}
use Rattle.folds.specs.Folds.{fold_refusal}
use Rattle.row_wrap.specs.declared.Wrap.{Wrap}
use Rattle.vertical.specs.declared.Target.{Target}
use Rattle.visible_rows.specs.Visible.{delta_of}
use Rattle.vertical.specs.Moves.{move_vertical}
use Rattle.screen.specs.declared.Kept.{Kept}
use Rattle.screen.specs.Screen.{move_screen}
use Rattle.screen.specs.Keeping.{move_screen_kept}
use Rattle.positions.specs.Positions.{lowest}
use Rattle.motions.specs.declared.Caret.{Caret}
use Rattle.motions.specs.declared.Moved.{Moved}
use Rattle.motions.specs.Carets.{caret_refusal, moving, caret_with, caret_at}

-- 6: a tabstop above 1,000
abbrev pub stop_refusal : ℕ → ℕ
stop_refusal tabstop = cond (ltb 1000 tabstop) 6 0

-- text, caret, folds and tabstop
abbrev pub vertical_refusal : List ℕ → List ℕ → ℕ → Caret → ℕ
vertical_refusal t folds tabstop k = lowest (text_refusal t ∷ caret_refusal t k ∷ fold_refusal folds (row_count t) ∷ stop_refusal tabstop ∷ [])

-- the caret where a walk has ended: what it aimed for is the sticky column
abbrev pub at_target : Target → Caret
at_target p = caret_at p.row p.col (Some p.want)

-- `j` and `k`
abbrev pub move_rows : Ambiguous → List ℕ → List ℕ → ℕ → Bool → ℕ → Caret → Moved
move_rows a t folds tabstop down count k =
    moving (vertical_refusal t folds tabstop k) (at_target (move_vertical (width_as a) t folds tabstop (delta_of down count) k.row k.col k.sticky))

-- `gj` and `gk`
abbrev pub screen_caret : Ambiguous → List ℕ → List ℕ → ℕ → Wrap → ℕ → Bool → ℕ → Caret → Caret
screen_caret a t folds tabstop mode width down count k =
    at_target (move_screen (width_as a) t folds tabstop mode width down count k.row k.col k.sticky)

abbrev pub move_screen_rows : Ambiguous → List ℕ → List ℕ → ℕ → Wrap → ℕ → Bool → ℕ → Caret → Moved
move_screen_rows a t folds tabstop mode width down count k = moving (vertical_refusal t folds tabstop k) (screen_caret a t folds tabstop mode width down count k)

-- `gj` and `gk` that remember: the caret's own offset goes in, and the one that was kept is the caret's from then on
abbrev pub at_kept : Kept → Caret
at_kept p = caret_with p.target.row p.target.col (Some p.target.want) p.offset

abbrev pub kept_caret : Ambiguous → List ℕ → List ℕ → ℕ → Wrap → ℕ → Bool → ℕ → Caret → Caret
kept_caret a t folds tabstop mode width down count k =
    at_kept (move_screen_kept (width_as a) t folds tabstop mode width down count k.row k.col k.sticky k.offset)

abbrev pub move_screen_rows_kept : Ambiguous → List ℕ → List ℕ → ℕ → Wrap → ℕ → Bool → ℕ → Caret → Moved
move_screen_rows_kept a t folds tabstop mode width down count k =
    moving (vertical_refusal t folds tabstop k) (kept_caret a t folds tabstop mode width down count k)
