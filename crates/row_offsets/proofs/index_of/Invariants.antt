-- `row_offsets::index_of` meets its contract. The invariant of its loop: no pair before k holds the column.
-- Assumes nothing.
use Rattle.row_cells.proofs.Pairs.{PairsTo}
use Rattle.row_offsets.proofs.index_of.Given as goal

abbrev pub invariant-loop-k : goal.invariant-loop-k
invariant-loop-k l = PairsTo l.col l.segments l.k
