-- `row_starts` meets its contract: what the fill answers is shown. Assumes nothing.
use Rattle.call_row_table.proofs.Shown.{host_fills}
use Rattle.call_row_table.proofs.row_starts.Goals as goal

pub returns : goal.returns
returns c = host_fills c.row_starts.ensures c.show_count.ensures
