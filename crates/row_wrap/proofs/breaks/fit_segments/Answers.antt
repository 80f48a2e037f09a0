-- `row_wrap::breaks::fit_segments` meets its contract: the count goes by what the segments are, and so does the room that it asks. Assumes nothing.
use Rattle.lists.proofs.Kit.{arith}
use Rattle.row_wrap.proofs.Room.{fitted_refused, fitted_count}
use Rattle.row_wrap.proofs.breaks.fit_segments.Goals as goal

pub returns-then-out-n : goal.returns-then-out-n
returns-then-out-n c = fitted_refused (omega (arith, c.count_segments-n.ensures.count))

pub returns : goal.returns
returns c =
    let count_segments_told = c.count_segments-n.ensures in
    fitted_count (omega (arith, count_segments_told.count, c.if-out-n.false)) (omega (arith, count_segments_told.count))
    c.write_segments.ensures
