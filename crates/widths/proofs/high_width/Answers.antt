-- `widths::high_width` meets its contract: the consts are the lists of the tables. Assumes nothing.
use Rattle.lists.proofs.Kit.{refl, ℕ}
use Rattle.chars.specs.Width.{zero_widths}
use Rattle.widths.specs.declared.Ambiguous.TheVariants.{Wide}
use Rattle.widths.proofs.WideTable.{wide_doubles}
use Rattle.widths.proofs.Lent.{doubles_of, by_width, widths_lent}
use Rattle.widths.proofs.high_width.Goals as goal

pub width_in-requires : goal.width_in-requires
unfolding zero_widths wide_doubles doubles_of
width_in-requires c = widths_lent Wide refl refl

pub returns : goal.returns
unfolding zero_widths wide_doubles doubles_of
returns c = by_width Wide refl refl (λ (w : ℕ → ℕ). w c.args.x) c.width_in.ensures
