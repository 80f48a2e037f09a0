-- `filling::fill_into` meets its contract: what the call answers, and leaves in its place and in the table, is compared. Assumes nothing.
use Rattle.call_texts.specs.Rows.{told_rows}
use Rattle.call_row_table.specs.Tables.{fill_of}
use Rattle.replay_verdicts.proofs.Comparing.{wrapped_compared}
use Rattle.replay_tables.specs.Tables.{filled_into}
use Rattle.replay_tables.proofs.filling.fill_into.Goals as goal

pub returns : goal.returns
unfolding filled_into
returns c =
    let given = c.args in
    let filled = c.row_starts-n.ensures in
    rw (← filled.starts_left) (wrapped_compared (told_rows (fill_of given.text.now given.table.now)) _ _ filled.out_left c.compared_two.ensures)
