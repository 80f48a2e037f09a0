-- `calls::segment_for_col` meets its contract: what the call answers and leaves is compared. Assumes nothing.
use Rattle.row_offsets.specs.Calls.{segment_for_col}
use Rattle.call_rows.specs.Wraps.{told_segment}
use Rattle.replay.specs.Calls.{segment_for_col_of}
use Rattle.replay_verdicts.proofs.Comparing.{replied_compared, places_count, told_sized}
use Rattle.replay.proofs.calls.segment_for_col.Goals as goal

pub slice_bounds-compared-end : goal.slice_bounds-compared-end
slice_bounds-compared-end c =
    let given = c.args in
    let given_k = given.k in
    places_count 1 c.segment_for_col-n.ensures (told_sized (told_segment (segment_for_col given.segments.now given_k.a)))

pub returns : goal.returns
unfolding segment_for_col_of
returns c = replied_compared 1 _ c.segment_for_col-n.ensures c.compared.ensures
