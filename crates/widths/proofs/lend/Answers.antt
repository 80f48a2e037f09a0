-- `widths::lend` meets its contract: the tables that it names are those of the setting. Assumes nothing.
use Rattle.lists.proofs.Kit.{refl}
use Rattle.chars.specs.Width.{zero_widths, double_widths}
use Rattle.widths.specs.declared.Ambiguous.TheVariants.{Narrow, Wide}
use Rattle.widths.proofs.WideTable.{wide_doubles}
use Rattle.widths.proofs.Lent.{doubles_of, lends_of}
use Rattle.widths.proofs.lend.Goals as goal

pub walk-requires : goal.walk-requires
unfolding zero_widths double_widths doubles_of
walk-requires g c = c.requires _ (rw c.in-Narrow.is (lends_of Narrow _ refl refl))

pub walk-requires-in-Wide : goal.walk-requires-in-Wide
unfolding zero_widths wide_doubles doubles_of
walk-requires-in-Wide g c = c.requires _ (rw c.in-Wide.is (lends_of Wide _ refl refl))

pub returns-in-Narrow : goal.returns-in-Narrow
unfolding zero_widths double_widths doubles_of
returns-in-Narrow g c = (_, rw c.in-Narrow.is (lends_of Narrow _ refl refl), c.walk.ensures)

pub returns-in-Wide : goal.returns-in-Wide
unfolding zero_widths wide_doubles doubles_of
returns-in-Wide g c = (_, rw c.in-Wide.is (lends_of Wide _ refl refl), c.walk-in-Wide.ensures)
