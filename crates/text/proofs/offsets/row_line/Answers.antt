-- `text::offsets::row_line` meets its contract: it stands on the first row. Assumes nothing.
use Rattle.text.proofs.Stands.{first_line}
use Rattle.text.proofs.offsets.row_line.Goals as goal

pub line_from-requires : goal.line_from-requires
line_from-requires c = (first_line c.args.t.now, c.requires.0, c.requires.1)
