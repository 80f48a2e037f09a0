-- What the contracts of `src/lib.rt` cite: the refusals of a row with a tabstop, and the cells of a character, over any width function w.
-- From `geom.rs` and document 01, "Character facts". Definitions only; the laws are in `proofs/Accepted.antt`. Assumes nothing.
use Rattle.std.specs.Prelude.{◌≡◌, ℕ, ◌-◌, ◌%◌, ◌≤◌, ◌<◌, List, cond, eqb, ltb}
use Rattle.chars.specs.declared.Measure.{Measure}
use Rattle.chars.specs.Width.{Measures}
use Rattle.row_check.specs.Row.{row_refusal}

-- 1 and 2 of the row, 6: a tabstop above 1,000; 0: accepted
unfoldable pub column_refusal : List ℕ → ℕ → ℕ
column_refusal row tabstop = cond (eqb (row_refusal row) 0) (cond (ltb 1000 tabstop) 6 0) (row_refusal row)

-- tabstop 0 acts as 1
unfoldable pub stop_of : ℕ → ℕ
stop_of tabstop = cond (eqb tabstop 0) 1 tabstop

-- the cells of x from visual column v on: a tab runs to the next multiple of the tabstop, any other has its width
abbrev pub cells_at : (ℕ → ℕ) → ℕ → ℕ → ℕ → ℕ
cells_at w tab v x = cond (eqb x 9) (tab - v % tab) (w x)

-- r is the cells of a character
pub record CellsAre (n r : ℕ) : Type 0 where
  pub cells : r ≡ n
  pub small : r ≤ 1000

-- a tabstop from 1 to 1,000
pub record Stop (tab : ℕ) : Type 0 where
  pub some : 0 < tab
  pub near : tab ≤ 1000

-- and the tables of widths
pub record Tables (m : Measure) (tab : ℕ) : Type 0 where
  pub widths : Measures m
  pub stop : Stop tab
