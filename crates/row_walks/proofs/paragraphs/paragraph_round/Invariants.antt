-- `row_walks::paragraphs::paragraph_round` meets its contract. The invariant of its loop is `Rounding`: from the walk's row on the round leads where it was to.
-- The measure is the rows that are left in the direction. The bits of the signed row are the row. Assumes nothing.
use mir.Syntax.{w64}
use mir.Val.{of_z}
use Rattle.row_walks.specs.Toward.{rows_left}
use Rattle.row_walks.proofs.Rounding.{Rounding}
use Rattle.row_walks.proofs.paragraphs.paragraph_round.Given as goal

abbrev pub invariant-loop-here : goal.invariant-loop-here
invariant-loop-here l = Rounding l.t l.forward l.last (of_z w64 l.initial.curr) (of_z w64 l.curr) l.start l.skip

abbrev pub decreases-loop-here : goal.decreases-loop-here
decreases-loop-here l = rows_left l.forward l.last (of_z w64 l.curr)
