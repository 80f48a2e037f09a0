-- `print::put_decimal` meets its contract: the last digit stands after those of a tenth. Assumes nothing.
use Rattle.lists.proofs.Kit.{arith}
use Rattle.print.proofs.Laws.{length_small, length_more, wrote_small, wrote_more}
use Rattle.print.proofs.+put_decimal.Goals as goal

pub put-requires : goal.put-requires
put-requires t c = omega (arith, length_small c.args.n c.if-n-lt10.true)

pub returns-then-n-lt10 : goal.returns-then-n-lt10
returns-then-n-lt10 t c = wrote_small c.if-n-lt10.true c.put.ensures

pub put_decimal-next-requires : goal.put_decimal-next-requires
put_decimal-next-requires t c = (omega arith, omega (arith, length_more c.args.n c.if-n-lt10.false (omega arith)))

pub put-requires-2 : goal.put-requires-2
put-requires-2 t c =
    let told = c.put_decimal-next.ensures in
    omega (arith, length_more c.args.n c.if-n-lt10.false (omega arith), told.size, told.next)

pub returns : goal.returns
returns t c = wrote_more c.if-n-lt10.false (omega arith) c.put_decimal-next.ensures c.put-2.ensures
