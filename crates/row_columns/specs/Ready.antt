-- What the walks of `src/lib.rt` require of what they are lent, once the row and the tabstop are accepted. Definitions only. Assumes nothing.
use Rattle.std.specs.Prelude.{ℕ, ◌≤◌, List, length}
use Rattle.chars.specs.declared.Measure.{Measure}
use Rattle.chars.specs.Width.{Measures}
use Rattle.row_tabs.specs.Cells.{Tables}

-- a row and a tabstop that are not refused
pub record Fits (row : List ℕ) (tabstop : ℕ) : Type 0 where
  pub brief : length row ≤ 1048576
  pub near : tabstop ≤ 1000

-- and the tables of widths
pub record Lent (m : Measure) (row : List ℕ) (tabstop : ℕ) : Type 0 where
  pub widths : Measures m
  pub fits : Fits row tabstop

-- the tables of widths with a tabstop, and a row that is not too long
pub record Ready (m : Measure) (row : List ℕ) (tab : ℕ) : Type 0 where
  pub tables : Tables m tab
  pub brief : length row ≤ 1048576
