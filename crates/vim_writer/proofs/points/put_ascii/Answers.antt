-- `points::put_ascii` meets its contract. The invariant of its loop: the first i characters are written. Assumes nothing.
use Rattle.lists.proofs.Kit.{◌≡◌, add-zero, arith, rules}
use Rattle.print.proofs.Laws.{wrote_none, wrote_byte}
use Rattle.vim_writer.proofs.points.put_ascii.Goals as goal

pub overflow_cast-out : goal.overflow_cast-out
overflow_cast-out c = omega (arith, c.type_inv.s c.loop-i.i)

pub loop-i-preserved : goal.loop-i-preserved
loop-i-preserved c =
    let at_loop = c.loop-i in
    record { within = omega arith; wrote = wrote_byte c.args.s.now at_loop.i at_loop.invariant.wrote (omega arith) }

pub returns : goal.returns
returns c =
    let at_loop = c.loop-i in
    let i_is : at_loop.i ≡ c.args.n = omega arith in
    rw i_is at at_loop.invariant.wrote

pub loop-i-init : goal.loop-i-init
loop-i-init c = search (rules, add-zero, wrote_none)
