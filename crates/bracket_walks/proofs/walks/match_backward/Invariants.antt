-- `bracket_walks::walks::match_backward` meets its contract. The invariant of its loop: `depth` are closed from b on, no place passed opens what was
-- closed, and b stands in row `row`. Assumes nothing.
use Rattle.text.specs.Offsets.{row_start}
use Rattle.bracket_walks.proofs.Behind.{Behind}
use Rattle.bracket_walks.proofs.Walking.{Walking}
use Rattle.bracket_walks.proofs.walks.match_backward.Given as goal

abbrev pub invariant-loop-b : goal.invariant-loop-b
invariant-loop-b l = Walking (λ j d. Behind l.opening l.closing l.t l.at l.deep j d) l.t l.deep l.row (row_start l.t l.row) l.b l.depth
