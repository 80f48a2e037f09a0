-- `print::put_bytes` meets its contract. The invariant of its loop: the first i bytes are written. Assumes nothing.
use Rattle.lists.proofs.Kit.{◌≡◌, add-zero, arith, length}
use Rattle.print.proofs.Laws.{wrote_none, wrote_byte, wrote_bytes}
use Rattle.print.proofs.put_bytes.Goals as goal

pub loop-i-init : goal.loop-i-init
loop-i-init c = record { within = omega arith; wrote = rw add-zero (wrote_none _ _) }

pub loop-i-preserved : goal.loop-i-preserved
loop-i-preserved c =
    let at_loop = c.loop-i in
    record {
      within = omega arith;
      wrote = wrote_byte c.args.s.now at_loop.i (at_loop.invariant).wrote c.loop-i-test.true;
    }

pub returns : goal.returns
returns c =
    let all : length c.args.s.now ≡ c.loop-i.i = omega (arith, c.loop-i.invariant.within, c.loop-i-test.false) in
    rw all (wrote_bytes c.args.s.now c.loop-i.i c.loop-i.invariant.wrote c.loop-i-test.false)
