-- `same_bytes` meets its contract. The invariant of its loop: what is left decides. Assumes nothing.
use Rattle.lists.proofs.Kit.{◌≡◌, drop}
use Rattle.lists.specs.Lists.{is_same}
use Rattle.replay_classes.proofs.same_bytes.Given as goal

abbrev pub invariant-loop-i : goal.invariant-loop-i
invariant-loop-i l = is_same l.a l.b ≡ is_same (drop l.i l.a) (drop l.i l.b)
