-- `widen` meets its contract. The invariant of its loop: the first i bytes stand in the places. Assumes nothing.
use Rattle.lists.proofs.Kit.{◌≡◌, take}
use Rattle.replay_codings.proofs.widen.Given as goal

abbrev pub invariant-loop-i : goal.invariant-loop-i
invariant-loop-i l = take l.i l.numbers ≡ take l.i l.bytes
