-- `leaps::start_of` meets its contract: the table is the text's. Assumes nothing.
use native.Mathlib.Omega.{arith}
use Rattle.jumps.proofs.Spots.{table_room, table_start}
use Rattle.jumps.proofs.leaps.start_of.Goals as goal

pub offset_bounds-table-row : goal.offset_bounds-table-row
offset_bounds-table-row c = omega (arith, table_room c.args.t.now c.args.table.now c.requires.tabled, c.requires.in_row)

pub bounds-table-row : goal.bounds-table-row
bounds-table-row c =
    omega (arith, table_room c.args.t.now c.args.table.now c.requires.tabled, c.requires.in_row)

pub overflow_cast-result : goal.overflow_cast-result
overflow_cast-result c = omega (arith, c.type_inv.table c.args.row)

pub returns : goal.returns
returns c =
    table_start c.args.t.now c.args.table.now c.requires.tabled c.args.row c.requires.in_row
