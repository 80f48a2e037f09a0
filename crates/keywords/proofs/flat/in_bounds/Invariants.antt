-- `keywords::flat::in_bounds` meets its contract. The invariant of its loop: no pair before i holds c. Assumes nothing.
use Rattle.lists.proofs.Kit.{◌+◌, take, drop}
use Rattle.lists.proofs.Decides.{Decides}
use Rattle.keywords.specs.Flat.{within}
use Rattle.keywords.proofs.flat.in_bounds.Given as goal

abbrev pub invariant-loop-i : goal.invariant-loop-i
invariant-loop-i l = Decides (within (take (l.n + l.n) l.bounds) l.c) (λ j. within (drop (j + j) (take (l.n + l.n) l.bounds)) l.c) l.n l.i
