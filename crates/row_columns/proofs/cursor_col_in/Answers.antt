use Rattle.row_columns.proofs.Accepted.{ready}
use Rattle.row_columns.proofs.cursor_col_in.Goals as goal

pub cursor_at-requires : goal.cursor_at-requires
cursor_at-requires c = ready c.requires c.stop_of.ensures

pub returns : goal.returns
returns c = rw (← c.stop_of.ensures) c.cursor_at.ensures
