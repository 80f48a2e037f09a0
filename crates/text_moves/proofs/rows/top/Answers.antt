-- `rows::top` meets its contract: row 0 starts at offset 0.
-- Assumes nothing.
use Rattle.text.proofs.Stands.{first_line}
use Rattle.text_moves.proofs.rows.top.Goals as goal

pub at_line-requires : goal.at_line-requires
at_line-requires c = record { line = first_line c.args.t.now; brief = c.requires }
