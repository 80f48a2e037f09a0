-- `sequences::follow` meets its contract. The invariant of its loop: what is read is what is read from here on, with so many bytes left.
-- Assumes nothing.
use Rattle.lists.proofs.Kit.{◌+◌, ◌-◌, drop}
use Rattle.utf8.specs.Decoding.{ended, reading}
use Rattle.utf8.proofs.Steps.{Follows}
use Rattle.utf8.proofs.sequences.follow.Given as goal

abbrev pub invariant-loop-i : goal.invariant-loop-i
invariant-loop-i l =
    Follows l.bytes (ended l.left l.value (reading l.left l.least l.most l.value l.at (drop l.at l.bytes))) l.at l.i (l.at + l.left - l.i) l.from l.to l.bits
