-- `calls::wrap_into` meets its contract: what the call answers, and leaves in both lent places, is compared. Assumes nothing.
use Rattle.call_rows.specs.Wraps.{segmented}
use Rattle.replay.specs.Calls.{wrapped_in}
use Rattle.replay_verdicts.proofs.Comparing.{wrapped_compared}
use Rattle.replay.proofs.calls.wrap_into.Goals as goal

pub returns : goal.returns
unfolding wrapped_in
returns c =
    let given = c.args in
    let wrap_segments_told = c.wrap_segments-n.ensures in
    rw (← wrap_segments_told.segments_after)
    (wrapped_compared (segmented given.mode given.width given.segments.now given.row.now) _ _ wrap_segments_told.replied c.compared_two.ensures)
