-- What `src/segment.rt` and the walks over segments require of the tables that they are lent. Assumes nothing.
use Rattle.std.specs.Prelude.{ℕ, ◌≡◌, List}
use Rattle.chars.specs.declared.Measure.{Measure}
use Rattle.chars.specs.White.{whites}
use Rattle.chars.specs.Width.{Measures}

-- two tables of widths, and that of white space
pub record Tables (m : Measure) (white : List ℕ) : Type 0 where
  pub widths : Measures m
  pub whites_are : white ≡ whites
