-- `vertical::viewport::bottom_row` meets its contract: a text has a row with content. Assumes nothing.
use Rattle.lists.proofs.Kit.{arith}
use Rattle.text.proofs.Content.{content_near}
use Rattle.vertical.proofs.viewport.bottom_row.Goals as goal

pub overflow_sub-last : goal.overflow_sub-last
overflow_sub-last c = omega (arith, c.requires, content_near c.args.t.now)
