-- `sequences::step` meets its contract, by the ranges of the lead. Assumes nothing.
use Rattle.lists.proofs.Kit.{arith}
use Rattle.utf8.specs.Sequences.{bits_below}
use Rattle.utf8.proofs.Starts.{begins_one, begins_low, begins_high, begins_two, begins_three, begins_four, begun_more}
use Rattle.utf8.proofs.sequences.step.Goals as goal

-- ASCII
pub returns-then-a-lt128 : goal.returns-then-a-lt128
returns-then-a-lt128 c = (begins_one _ _ c.requires c.if-a-lt128.true, omega arith, omega arith)

-- 80 to C1
pub returns-then-a-lt194 : goal.returns-then-a-lt194
returns-then-a-lt194 c = begins_low _ _ c.requires c.if-a-lt128.false c.if-a-lt194.true

-- two bytes
pub follow-requires : goal.follow-requires
unfolding bits_below
follow-requires c = record { within = omega arith; few = omega arith; low = omega arith; high = omega arith; small = omega arith }

pub returns-then-a-lt224 : goal.returns-then-a-lt224
returns-then-a-lt224 c =
    rw (begins_two c.args.bytes.now c.args.at c.requires c.if-a-lt194.false c.if-a-lt224.true)
    c.follow.ensures

-- three
pub follow-requires-then-a-lt240 : goal.follow-requires-then-a-lt240
unfolding bits_below
follow-requires-then-a-lt240 c =
    begun_more c.args.bytes.now c.args.at c.requires _ _ c.low.ensures c.high.ensures 2 _ (omega arith)
    (omega arith)

pub returns-then-a-lt240 : goal.returns-then-a-lt240
returns-then-a-lt240 c =
    rw (begins_three c.args.bytes.now c.args.at c.requires _ _ c.low.ensures c.high.ensures
    c.if-a-lt224.false c.if-a-lt240.true) c.follow-then-a-lt240.ensures

-- four
pub follow-requires-then-a-le244 : goal.follow-requires-then-a-le244
unfolding bits_below
follow-requires-then-a-le244 c =
    begun_more c.args.bytes.now c.args.at c.requires _ _ c.low-then-a-le244.ensures c.high-then-a-le244.ensures 3 _ (omega arith)
    (omega arith)

pub returns-then-a-le244 : goal.returns-then-a-le244
returns-then-a-le244 c =
    rw (begins_four c.args.bytes.now c.args.at c.requires _ _ c.low-then-a-le244.ensures c.high-then-a-le244.ensures
    c.if-a-lt240.false c.if-a-le244.true) c.follow-then-a-le244.ensures

-- F5 and above
pub returns : goal.returns
returns c =
    begins_high _ _ c.requires c.if-a-le244.false
