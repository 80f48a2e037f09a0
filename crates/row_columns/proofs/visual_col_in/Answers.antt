use Rattle.row_columns.proofs.Accepted.{ready}
use Rattle.row_columns.proofs.visual_col_in.Goals as goal

pub visual_at-requires : goal.visual_at-requires
visual_at-requires c = ready c.requires c.stop_of.ensures

pub returns : goal.returns
returns c = rw (← c.stop_of.ensures) c.visual_at.ensures
