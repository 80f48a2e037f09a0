-- `call_edits::insert` meets its contract: what the edit leaves is shown. Assumes nothing.
use Rattle.call_edits.specs.Edits.{position_at}
use Rattle.call_edits.proofs.Shown.{host_fits, host_edits}
use Rattle.call_edits.proofs.insert.Goals as goal

pub show-requires : goal.show-requires
show-requires c =
    let given = c.args in
    host_fits given.text.now given.folds.now c.sizes_in-s.result (position_at given.row given.col) (position_at given.row given.col)
    given.points.now c.caret_in-k.result c.insert.result c.insert.ensures.answer

pub returns : goal.returns
returns c =
    host_edits c.insert.ensures c.caret_in-k.ensures c.sizes_in-s.ensures c.show.ensures.caret_left c.show.ensures.sizes_left
