-- `jumps::call::kind_refusal` meets its contract. The invariant of its loop: what is refused of the jumps from i on is what is refused of all.
-- Assumes nothing.
use Rattle.jumps.proofs.Pairs.{KindsLeft}
use Rattle.jumps.proofs.call.kind_refusal.Given as goal

abbrev pub invariant-loop-i : goal.invariant-loop-i
invariant-loop-i l = KindsLeft l.jumps l.n l.i
