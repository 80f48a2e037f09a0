-- `read_full` ends, and reads what `from` gives in front of its end. The invariant of its loop: what stands in front of `done` was read. The
-- measure is the room that is left. Assumes nothing.
use Rattle.std.proofs.Common.{◌-◌, ◌≡◌, ◌≤◌, length, take}
use Rattle.std.specs.Io.KnownBytes.{Consumes}
use Rattle.full_reads.proofs.read_full.Given as goal

abbrev pub invariant-loop-done : goal.invariant-loop-done
invariant-loop-done g l =
    let left = g.R.Read.remaining in
    (length l.input ≡ length l.initial.input) × (l.done ≤ length l.input) × Consumes (left l.initial.from) (left l.from) (take l.done l.input)

abbrev pub decreases-loop-done : goal.decreases-loop-done
decreases-loop-done g l = length l.input - l.done
