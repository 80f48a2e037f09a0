-- `H`, `M` and `L` on carets: the row of the viewport's edge, and in it the first character that is no blank. Motions.rs, "Viewport-relative motions".
-- Definitions only. Assumes nothing.
use Rattle.std.specs.Prelude.{ℕ, List}
use Rattle.vertical.specs.declared.Edge.{Edge}
use Rattle.vertical.specs.Viewport.{viewport_row}
use Rattle.text_moves.specs.Rows.{at_row}
use Rattle.motions.specs.declared.Caret.{Caret}
use Rattle.motions.specs.declared.Moved.{Moved}
use Rattle.motions.specs.Carets.{refusal_of, moving, put}

-- the sticky column is kept
abbrev pub viewport_caret : List ℕ → Edge → ℕ → ℕ → ℕ → Caret → Caret
viewport_caret t edge top height offset k = put k (at_row t (viewport_row edge t top height offset))

abbrev pub move_viewport : List ℕ → Edge → ℕ → ℕ → ℕ → Caret → Moved
move_viewport t edge top height offset k = moving (refusal_of t k) (viewport_caret t edge top height offset k)
