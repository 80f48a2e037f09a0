-- `points::number_size` meets its contract: ten places are enough for a number, and writing it tells how many it takes. Assumes nothing.
use Rattle.lists.proofs.Kit.{arith}
use Rattle.print.proofs.Laws.{length_decimal}
use Rattle.vim_writer.proofs.points.number_size.Goals as goal

pub put_decimal-requires : goal.put_decimal-requires
put_decimal-requires c = omega (arith, length_decimal c.args.n)
