-- `bracket_walks::walks::match_forward` meets its contract. The invariant of its loop: `depth` are open at j, no place passed closes what was open,
-- and j stands in row `row`. Assumes nothing.
use Rattle.bracket_walks.proofs.Ahead.{Ahead}
use Rattle.bracket_walks.proofs.Walking.{Walking}
use Rattle.bracket_walks.proofs.walks.match_forward.Given as goal

abbrev pub invariant-loop-j : goal.invariant-loop-j
invariant-loop-j l = Walking (λ i d. Ahead l.opening l.closing l.t l.at l.deep i d) l.t l.deep l.row l.start l.j l.depth
