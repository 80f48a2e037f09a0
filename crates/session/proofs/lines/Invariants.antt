-- `session::lines` meets its contract. The invariant of its loop: what was printed so far, and that the rest is still to come. The measure is
-- the rest of the input. Assumes nothing.
use Rattle.lists.proofs.Kit.{◌+◌, ◌-◌, length}
use Rattle.session.proofs.Progress.{Progress}
use Rattle.session.proofs.lines.Given as goal

abbrev pub invariant-loop-i : goal.invariant-loop-i
invariant-loop-i l = Progress l.input l.t l.initial.out l.k l.at l.i l.out

abbrev pub decreases-loop-i : goal.decreases-loop-i
decreases-loop-i l = length l.input + 1 - l.i
