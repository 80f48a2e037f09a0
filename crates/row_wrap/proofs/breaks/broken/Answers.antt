-- `row_wrap::breaks::broken` meets its contract: the tables that it lends are those of the setting. Assumes nothing.
use Rattle.lists.proofs.Kit.{refl}
use Rattle.chars.specs.White.{whites}
use Rattle.chars.specs.Width.{zero_widths, double_widths}
use Rattle.widths.specs.declared.Ambiguous.TheVariants.{Narrow, Wide}
use Rattle.widths.proofs.WideTable.{wide_doubles}
use Rattle.widths.proofs.Lent.{doubles_of, width_lent, widths_lent}
use Rattle.row_wrap.proofs.breaks.broken.Goals as goal

pub fit_segments-requires : goal.fit_segments-requires
unfolding whites zero_widths double_widths doubles_of
fit_segments-requires c =
    record { tables = record { widths = widths_lent Narrow refl refl; whites_are = refl }; brief = c.requires }

pub fit_segments-requires-in-Wide : goal.fit_segments-requires-in-Wide
unfolding whites zero_widths wide_doubles doubles_of
fit_segments-requires-in-Wide c =
    record { tables = record { widths = widths_lent Wide refl refl; whites_are = refl }; brief = c.requires }

pub returns-in-Narrow : goal.returns-in-Narrow
unfolding zero_widths double_widths doubles_of
returns-in-Narrow c = rw (c.in-Narrow.is, ← width_lent Narrow refl refl) c.fit_segments.ensures

pub returns-in-Wide : goal.returns-in-Wide
unfolding zero_widths wide_doubles doubles_of
returns-in-Wide c = rw (c.in-Wide.is, ← width_lent Wide refl refl) c.fit_segments-in-Wide.ensures
