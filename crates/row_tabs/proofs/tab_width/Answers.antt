-- `row_tabs::tab_width` meets its contract: a remainder is below the tabstop. Assumes nothing.
use Rattle.lists.proofs.Kit.{mod-lt, arith}
use Rattle.row_tabs.proofs.tab_width.Goals as goal

pub overflow_sub-result : goal.overflow_sub-result
overflow_sub-result c = omega (arith, mod-lt c.args.visual c.requires.some)
