-- `decode` meets its contract. The loop's invariant: the first i code points stand in the room, the rest of it is as it was.
-- Assumes nothing.
use Rattle.lists.proofs.Kit.{◌≡◌, ◌++◌, take, drop}
use Rattle.call_points.specs.Points.{points}
use Rattle.call_points.proofs.decode.Given as goal

abbrev pub invariant-loop-i : goal.invariant-loop-i
invariant-loop-i l = l.room ≡ take l.i (points l.bytes) ++ drop l.i l.initial.room
