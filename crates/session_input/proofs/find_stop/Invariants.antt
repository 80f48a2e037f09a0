-- `session_input::find_stop` meets its contract. The invariant of its loop: no row before i is a full stop. The measure is the rest of the input.
-- Assumes nothing.
use Rattle.lists.proofs.Kit.{◌+◌, ◌-◌, length}
use Rattle.session_input.proofs.Rows.{Sought}
use Rattle.session_input.proofs.find_stop.Given as goal

abbrev pub invariant-loop-i : goal.invariant-loop-i
invariant-loop-i l = Sought l.input l.i

abbrev pub decreases-loop-i : goal.decreases-loop-i
decreases-loop-i l = length l.input + 1 - l.i
