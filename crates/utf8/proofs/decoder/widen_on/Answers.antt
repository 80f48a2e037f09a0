-- `decoder::widen_on` meets its contract. The invariant of its loop: the code points before i are written, and what is left is ASCII. The measure
-- is what is left up to `until`. Assumes nothing.
use Rattle.lists.proofs.Kit.{arith}
use Rattle.utf8.proofs.Ascii.{plain_on}
use Rattle.utf8.proofs.Starts.{begins_one}
use Rattle.utf8.proofs.Written.{going_start, going_wrote, going_room, going_on_lem}
use Rattle.utf8.proofs.decoder.widen_on.Goals as goal

pub loop-i-init : goal.loop-i-init
loop-i-init c = record { going = going_start c.requires.written.holds; ascii = c.requires.ascii }

pub overflow_cast-points : goal.overflow_cast-points
overflow_cast-points c = omega (arith, c.type_inv.bytes c.loop-i.i)

pub bounds-points-n : goal.bounds-points-n
bounds-points-n c =
    let at_loop = c.loop-i in
    let ascii = plain_on c.args.bytes.now at_loop.i c.args.until c.loop-i-test.true (omega arith) at_loop.invariant.ascii in
    going_room at_loop.invariant.going _ _ (begins_one c.args.bytes.now at_loop.i (omega arith) ascii.0)

pub loop-i-preserved : goal.loop-i-preserved
loop-i-preserved c =
    let at_loop = c.loop-i in
    let ascii = plain_on c.args.bytes.now at_loop.i c.args.until c.loop-i-test.true (omega arith) at_loop.invariant.ascii in
    record {
      going = going_on_lem at_loop.invariant.going _ _ (begins_one c.args.bytes.now at_loop.i (omega arith) ascii.0) (omega arith);
      ascii = ascii.1;
    }

pub returns : goal.returns
returns c = going_wrote c.loop-i.invariant.going c.loop-i-test.false

pub shape_of-points : goal.shape_of-points
shape_of-points c = c.loop-i.invariant.going.size
