-- `text::offsets::walk_down` meets its contract. The invariant of its loop: i stands in row r, which lies above row `to`. Assumes nothing.
use Rattle.text.proofs.Stands.{Above}
use Rattle.text.proofs.offsets.walk_down.Given as goal

abbrev pub invariant-loop-i : goal.invariant-loop-i
invariant-loop-i l = Above l.t l.to l.r l.i
