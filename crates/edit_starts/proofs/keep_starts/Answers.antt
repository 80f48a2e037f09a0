-- `keep_starts` meets its contract: later starts move first, and then those of the stretch give way. Assumes nothing.
use Rattle.edit_starts.proofs.Moving.{kept_starts_lem}
use Rattle.edit_starts.proofs.keep_starts.Goals as goal

pub returns : goal.returns
returns c =
    let given = c.args in
    let required = c.requires in
    kept_starts_lem given.starts.now given.rows given.r given.q given.a given.b given.points.now required.rows_order required.last_row
    required.fits c.move_starts.ensures c.replace_starts.ensures
