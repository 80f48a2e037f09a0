-- `row_offsets::offset_in` meets its contract, by what is asked for: a part of a row is no longer than the row. Assumes nothing.
use Rattle.lists.proofs.Kit.{arith}
use Rattle.row_offsets.proofs.Places.{part_most}
use Rattle.row_offsets.proofs.offset_in.Goals as goal

pub returns-in-Char : goal.returns-in-Char
returns-in-Char c = rw c.in-Char.is c.char_in.ensures

pub cells_in-requires : goal.cells_in-requires
cells_in-requires c =
    let given = c.args in
    let most = (part_most given.row.now given.start given.n).1 in
    (c.requires.widths, rw c.part_of-inside.ensures (omega (arith, c.requires.brief)))

pub returns-in-Cells : goal.returns-in-Cells
returns-in-Cells c =
    rw (c.in-Cells.is, ← c.part_of-inside.ensures) c.cells_in.ensures
