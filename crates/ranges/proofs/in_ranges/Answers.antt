-- `ranges::in_ranges` meets its contract: the last range that starts at x or before decides, and there is none where x is before every start.
-- Assumes nothing.
use Rattle.lists.proofs.Kit.{sym, ◌-◌, arith}
use Rattle.ranges.proofs.Lengths.{apart_starts, apart_length, before_all, last_of}
use Rattle.ranges.proofs.in_ranges.Goals as goal

pub up_to-n-requires : goal.up_to-n-requires
up_to-n-requires c =
    apart_starts c.args.starts.now c.args.lengths.now c.requires

pub returns-then-n-eq0 : goal.returns-then-n-eq0
returns-then-n-eq0 c =
    sym (before_all c.args.starts.now c.args.lengths.now (rw c.if-n-eq0.true at c.up_to-n.ensures))

-- the last start is not above x
pub overflow_sub-result : goal.overflow_sub-result
overflow_sub-result c =
    let found = c.up_to-n in
    found.ensures.below (found.result - 1) (omega (arith, c.if-n-eq0.false))

-- each start has its length
pub bounds-lengths-last : goal.bounds-lengths-last
bounds-lengths-last c =
    omega (
      arith,
      apart_length c.args.starts.now c.args.lengths.now c.requires,
      c.up_to-n.ensures.inside,
      c.if-n-eq0.false,
    )

-- a length has 16 bits
pub overflow_cast-result : goal.overflow_cast-result
overflow_cast-result c = record { fits = omega (arith, (c.type_inv.lengths (c.up_to-n.result - 1)).fits) }

pub returns : goal.returns
returns c =
    let found = c.up_to-n in
    last_of c.args.starts.now c.args.lengths.now found.result (omega (arith, c.if-n-eq0.false)) c.requires found.ensures
