-- The small table: each statement is computed. Assumes nothing.
use mathlib.Core.Path.{refl}
use Rattle.ranges.specs.Worked.{Worked}

pub worked : Worked
worked = record { rule = tt; first = refl; last = refl; between = refl; one = refl }
