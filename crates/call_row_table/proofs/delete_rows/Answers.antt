-- `delete_rows` meets its contract: what the edit leaves is shown. Assumes nothing.
use Rattle.lists.proofs.Kit.{refl, [], get_or}
use Rattle.call_edits.specs.Edits.{position_at}
use Rattle.call_row_table.proofs.Shown.{host_fits, host_keeps}
use Rattle.call_row_table.proofs.delete_rows.Goals as goal

pub show-requires : goal.show-requires
show-requires c =
    let given = c.args in
    host_fits given.text.now given.folds.now given.starts.now c.sizes_in-s.result (get_or given.sizes.now 2 0)
    (position_at given.row given.col) (position_at given.end_row given.end_col) [] c.caret_in-k.result
    c.delete_rows-e.result c.delete_rows-e.ensures.answer

pub returns : goal.returns
returns c =
    host_keeps c.delete_rows-e.ensures c.caret_in-k.ensures c.sizes_in-s.ensures refl c.show.ensures.caret_left
    c.show.ensures.sizes_left
