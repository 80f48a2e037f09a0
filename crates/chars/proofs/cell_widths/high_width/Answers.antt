-- `chars::cell_widths::high_width` meets its contract: the consts are the lists of the definition. Assumes nothing.
use Rattle.lists.proofs.Kit.{refl, ℕ}
use Rattle.chars.specs.Width.{zero_widths, double_widths}
use Rattle.chars.proofs.Lent.{by_width, widths_lent}
use Rattle.chars.proofs.cell_widths.high_width.Goals as goal

pub width_in-requires : goal.width_in-requires
unfolding zero_widths double_widths
width_in-requires c = widths_lent refl refl

pub returns : goal.returns
unfolding zero_widths double_widths
returns c = by_width refl refl (λ (w : ℕ → ℕ). w c.args.x) c.width_in.ensures
