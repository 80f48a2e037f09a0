-- `widths::wide_width` meets its contract: before U+00A1 no character is of the class, and so the width is the same. Assumes nothing.
use Rattle.lists.proofs.Kit.{◌∙◌}
use Rattle.widths.specs.Widths.{width_as}
use Rattle.widths.proofs.Lent.{class_low}
use Rattle.widths.proofs.Laws.{wide_same}
use Rattle.widths.proofs.wide_width.Goals as goal

pub returns-then-x-lt161 : goal.returns-then-x-lt161
unfolding width_as
returns-then-x-lt161 c = let given_x = c.args.x in c.width.ensures ∙ wide_same given_x (class_low given_x c.if-x-lt161.true)
