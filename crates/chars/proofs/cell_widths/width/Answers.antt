-- `chars::width` meets its contract: below U+0300 the tables hold U+0000 alone. Assumes nothing.
use Rattle.lists.proofs.Kit.{sym, ◌∙◌}
use Rattle.chars.proofs.Lent.{width_low}
use Rattle.chars.proofs.cell_widths.width.Goals as goal

pub returns-then-x-lt768 : goal.returns-then-x-lt768
returns-then-x-lt768 c = c.low_width.ensures ∙ sym (width_low _ c.if-x-lt768.true)
