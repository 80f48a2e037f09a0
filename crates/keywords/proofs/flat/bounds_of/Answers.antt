-- `keywords::bounds_of` meets its contract. The invariant of its loop: the bounds of the tokens before i are stored, and after them stands 0.
-- Assumes nothing.
use Rattle.lists.proofs.Kit.{refl, arith, take, length-take, rules}
use Rattle.keywords.specs.Flat.{flat}
use Rattle.keywords.proofs.FlatLaws.{flat_push}
use Rattle.keywords.proofs.flat.bounds_of.Goals as goal

pub loop-i-init : goal.loop-i-init
unfolding flat
loop-i-init c = record { within = search rules; stored = refl }

-- the two bounds of the token at i
pub loop-i-preserved : goal.loop-i-preserved
loop-i-preserved c =
    let at_loop = c.loop-i in
    let given = c.args.spec in
    let size = length-take given.len given.tokens in
    record {
      within = omega arith;
      stored = flat_push (take given.len given.tokens) at_loop.bounds at_loop.i c.low.result c.high.result c.loop-i-test.true (omega (arith, size))
          at_loop.invariant.stored c.low.ensures c.high.ensures;
    }
