-- The leading spaces and tabs of a row, and what `leading_visual_width` answers: the number that it is refused for, or where they end.
-- From `geom.rs`. Definitions only; the laws are in `proofs/Leading.antt`. Assumes nothing.
use Rattle.std.specs.Prelude.{ℕ, ◌+◌, ◌≤◌, List, [], ◌∷◌, cond, ◌||◌, eqb, length}
use Rattle.row_check.specs.declared.Column.{Column}
use Rattle.row_check.specs.Row.{column_of}
use Rattle.row_tabs.specs.Cells.{column_refusal, stop_of, cells_at, Stop}

-- where the spaces and tabs end with which a row begins at v: a space is one cell
unfoldable pub leading_from : ℕ → ℕ → List ℕ → ℕ
leading_from tab v [] = v
leading_from tab v (x ∷ row) = cond (eqb x 32 || eqb x 9) (leading_from tab (v + cells_at (λ _. 1) tab v x) row) v

abbrev pub leading_width : ℕ → List ℕ → ℕ
leading_width tabstop row = leading_from (stop_of tabstop) 0 row

abbrev pub leading_visual_width : List ℕ → ℕ → Column
leading_visual_width row tabstop = column_of (column_refusal row tabstop) (leading_width tabstop row)

-- what the walk over them requires: a row that is not too long, and a tabstop
pub record Indented (row : List ℕ) (tab : ℕ) : Type 0 where
  pub brief : length row ≤ 1048576
  pub stop : Stop tab
