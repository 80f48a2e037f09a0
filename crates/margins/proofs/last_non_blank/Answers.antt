-- `margins::last_non_blank` meets its contract: the row up to its last character that is no white space, less one.
-- Assumes nothing.
use Rattle.lists.proofs.Kit.{refl, ap, arith}
use Rattle.chars.specs.White.{whites}
use Rattle.text.specs.Text.{row_at}
use Rattle.text.proofs.Parts.{row_fits}
use Rattle.margins.specs.Margins.{solid_of}
use Rattle.margins.proofs.Edging.{solid_le}
use Rattle.margins.proofs.last_non_blank.Goals as goal

-- the list of white space that is lent is the whole of it
pub solid-requires : goal.solid-requires
unfolding whites
solid-requires c = refl

pub returns : goal.returns
returns c =
    omega (
      arith,
      c.solid.ensures,
      ap solid_of c.row-row.ensures,
      solid_le (row_at c.args.t.now c.args.l.row),
      row_fits c.args.t.now c.args.l.row c.requires.line.in_row,
    )
