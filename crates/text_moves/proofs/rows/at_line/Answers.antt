-- `rows::at_line` meets its contract.
-- Assumes nothing.
use Rattle.lists.proofs.Kit.{ap}
use Rattle.text.specs.Text.{position}
use Rattle.text_moves.proofs.rows.at_line.Goals as goal

pub returns : goal.returns
returns c =
    let given = c.args in
    ap (position given.l.row) c.first_non_blank-col.ensures.column
