-- `encoder::size_all` meets its contract. The invariant of its loop: the bytes counted, and those to come. Assumes nothing.
use Rattle.lists.proofs.Kit.{ap, ◌+◌, arith, length, get_or, drop, length-append}
use Rattle.utf8.specs.Encoding.{encoding, utf8}
use Rattle.utf8.proofs.Encodings.{size_most}
use Rattle.utf8.proofs.Puts.{utf8_at, utf8_end}
use Rattle.utf8.proofs.encoder.size_all.Goals as goal

pub loop-x-init : goal.loop-x-init
loop-x-init c = record { within = omega arith; small = omega arith; whole = omega arith }

pub overflow_add-n : goal.overflow_add-n
overflow_add-n c =
    let value = get_or c.args.points.now c.loop-x.x-index 0 in
    omega (arith, c.size-n.ensures, size_most value)

pub loop-x-preserved : goal.loop-x-preserved
loop-x-preserved c =
    let points_now = c.args.points.now in
    let index = c.loop-x.x-index in
    let value = get_or points_now index 0 in
    let next = utf8_at points_now index c.loop-x-test.true in
    record {
      within = omega arith;
      small = omega (arith, c.size-n.ensures, size_most value);
      whole = omega (arith, c.size-n.ensures, c.loop-x.invariant.whole, ap length next, length-append (encoding value) (utf8 (drop (index + 1) points_now)));
    }

pub returns : goal.returns
returns c =
    let points_now = c.args.points.now in
    omega (arith, c.loop-x.invariant.whole, ap length (utf8_end points_now c.loop-x.x-index c.loop-x-test.false))
