use Rattle.lists.proofs.Kit.{ap, sym, ◌∙◌, List, ℕ}
use Rattle.chars.specs.Width.{width_with}
use Rattle.row_columns.specs.Columns.{cursor_col}
use Rattle.vertical.specs.Moves.{wanted_col}
use Rattle.vertical.proofs.Accepted.{row_ready}
use Rattle.vertical.proofs.moves.wanted.Goals as goal

pub cursor_col_in-requires : goal.cursor_col_in-requires
cursor_col_in-requires c =
    let required = c.requires in
    record { widths = required.widths; fits = row_ready required.place.row_good c.row-line.ensures }

-- the sticky column
pub returns-in-Some : goal.returns-in-Some
returns-in-Some c =
    let given = c.args in
    let width = width_with given.by in
    sym (ap (wanted_col width given.t.now given.tabstop given.l.row given.col) c.in-Some.is)

-- the cursor's own
pub returns-in-None : goal.returns-in-None
returns-in-None c =
    let given = c.args in
    let width = width_with given.by in
    c.cursor_col_in.ensures ∙
    ap (λ (x : List ℕ). cursor_col width given.tabstop x given.col) c.row-line.ensures ∙
    sym (ap (wanted_col width given.t.now given.tabstop given.l.row given.col) c.in-None.is)
