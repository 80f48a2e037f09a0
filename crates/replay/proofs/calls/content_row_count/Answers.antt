-- `calls::content_row_count` meets its contract: what the call answers and leaves is compared. Assumes nothing.
use Rattle.text.specs.Text.{content_row_count}
use Rattle.call_texts.specs.Rows.{told_rows}
use Rattle.replay.specs.Calls.{content_row_count_of}
use Rattle.replay_verdicts.proofs.Comparing.{replied_compared, places_count, told_sized}
use Rattle.replay.proofs.calls.content_row_count.Goals as goal

pub slice_bounds-compared-end : goal.slice_bounds-compared-end
slice_bounds-compared-end c =
    let given = c.args in
    places_count 1 c.content_row_count-n.ensures (told_sized (told_rows (content_row_count given.text.now)))

pub returns : goal.returns
unfolding content_row_count_of
returns c = replied_compared 1 _ c.content_row_count-n.ensures c.compared.ensures
