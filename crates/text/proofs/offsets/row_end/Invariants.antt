-- `text::offsets::row_end` meets its contract. The invariant of its loop: e is i, and the end is where the row from i on ends.
-- Assumes nothing.
use Rattle.lists.proofs.Kit.{◌≡◌, ◌≤◌, length}
use Rattle.text.specs.Offsets.{end_from}
use Rattle.text.proofs.offsets.row_end.Given as goal

abbrev pub invariant-loop-i : goal.invariant-loop-i
invariant-loop-i l = (l.e ≡ l.i) × (l.at ≤ l.i) × (l.i ≤ length l.t) × (end_from l.t l.at ≡ end_from l.t l.i)
