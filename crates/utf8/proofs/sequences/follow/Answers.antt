-- `sequences::follow` meets its contract. The invariant of its loop: what is read is what is read from here on, with so many bytes left.
-- Assumes nothing.
use Rattle.lists.proofs.Kit.{◌≡◌, refl, ◌+◌, ◌-◌, arith}
use Rattle.utf8.proofs.Steps.{bits_most, follows_cut, follows_low, follows_high, follows_on, follows_end}
use Rattle.utf8.proofs.sequences.follow.Goals as goal

pub overflow_add-i-end : goal.overflow_add-i-end
overflow_add-i-end c = omega (arith, c.requires.within, c.requires.few)

pub loop-i-init : goal.loop-i-init
loop-i-init c =
    let left_is : c.args.at + c.args.left - c.args.at ≡ c.args.left = omega arith in
    rw left_is (record { begun = c.requires; onward = omega arith; same = refl })

-- the bytes end here
pub returns-then-i-bytes : goal.returns-then-i-bytes
returns-then-i-bytes c = follows_cut c.loop-i.invariant (omega arith) c.if-i-bytes.true

-- a byte that can't stand here
pub returns-then-b-from : goal.returns-then-b-from
returns-then-b-from c = follows_low c.loop-i.invariant (omega arith) c.if-i-bytes.false c.if-b-from.true

pub returns-then-b-to : goal.returns-then-b-to
returns-then-b-to c = follows_high c.loop-i.invariant (omega arith) c.if-i-bytes.false c.if-b-to.true

-- the bits fit
pub overflow_mul-bits : goal.overflow_mul-bits
overflow_mul-bits c =
    let at_loop = c.loop-i in
    omega (arith, bits_most (c.args.at + c.args.left - at_loop.i), at_loop.invariant.begun.small)

pub overflow_sub-bits : goal.overflow_sub-bits
overflow_sub-bits c = omega (arith, c.loop-i.invariant.begun.low, c.if-b-from.false)

pub overflow_add-bits : goal.overflow_add-bits
overflow_add-bits c =
    let at_loop = c.loop-i in
    omega (arith, bits_most (c.args.at + c.args.left - at_loop.i), at_loop.invariant.begun.small, at_loop.invariant.begun.high, c.if-b-to.false)

-- one byte more
pub loop-i-preserved : goal.loop-i-preserved
loop-i-preserved c =
    let at_loop = c.loop-i in
    let one_less : c.args.at + c.args.left - (at_loop.i + 1) ≡ c.args.at + c.args.left - at_loop.i - 1 = omega arith in
    rw one_less (follows_on at_loop.invariant (omega arith) c.if-i-bytes.false c.if-b-from.false c.if-b-to.false)

pub returns : goal.returns
returns c =
    let invariant = c.loop-i.invariant in
    let i_is : c.args.at + c.args.left ≡ c.loop-i.i = omega arith in
    rw i_is (follows_end invariant (omega arith), invariant.onward, invariant.begun.within)
