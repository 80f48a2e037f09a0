-- `margins::first_non_blank` meets its contract: the row's indent, within its last column.
-- Assumes nothing.
use Rattle.lists.proofs.Kit.{ap, arith, length}
use Rattle.text.proofs.Parts.{row_fits}
use Rattle.margins.specs.Margins.{indent_of}
use Rattle.margins.proofs.first_non_blank.Goals as goal

pub returns : goal.returns
returns c =
    omega (
      arith,
      c.indent.ensures,
      ap indent_of c.row-row.ensures,
      ap length c.row-row.ensures,
      row_fits c.args.t.now c.args.l.row c.requires.line.in_row,
    )
