-- `fill::put_starts` meets its contract. The invariant of its loop: the starts of the first i code points are written. Assumes nothing.
use Rattle.row_table.proofs.Puts.{Putting}
use Rattle.row_table.proofs.fill.put_starts.Given as goal

abbrev pub invariant-loop-i : goal.invariant-loop-i
invariant-loop-i l = Putting l.initial.starts l.place l.at l.part l.n l.i l.starts
