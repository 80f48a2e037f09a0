-- `word_class_rows::rows::moved` meets its contract: the row goes up or down by the ends between. Assumes nothing.
use Rattle.lists.proofs.Kit.{arith}
use Rattle.word_class_rows.proofs.Counting.{row_below}
use Rattle.word_class_rows.proofs.rows.moved.Goals as goal

pub overflow_add-result : goal.overflow_add-result
overflow_add-result c =
    omega (arith, c.ends-2.ensures, c.requires.stands.row_is, row_below c.args.c.now c.args.i c.requires.within)
