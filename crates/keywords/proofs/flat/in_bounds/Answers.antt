-- `keywords::flat::in_bounds` meets its contract. The invariant of its loop: no pair before i holds c. Assumes nothing.
use Rattle.lists.proofs.Kit.{◌+◌, arith}
use Rattle.lists.proofs.Decides.{decides_stop, decides_on, decides_end}
use Rattle.keywords.proofs.FlatLaws.{within_on, within_end}
use Rattle.keywords.proofs.flat.in_bounds.Goals as goal

pub returns-then-lo-c : goal.returns-then-lo-c
returns-then-lo-c c =
    let at_loop = c.loop-i in
    decides_stop at_loop.invariant (at_loop.i + 1) (within_on c.args.bounds.now c.args.n at_loop.i c.args.c (omega arith) c.requires)
    c.if-lo-c.true

pub loop-i-preserved : goal.loop-i-preserved
loop-i-preserved c =
    let at_loop = c.loop-i in
    decides_on at_loop.invariant (at_loop.i + 1) (within_on c.args.bounds.now c.args.n at_loop.i c.args.c (omega arith) c.requires)
    (omega arith) c.if-lo-c.false

pub returns : goal.returns
returns c =
    let at_loop = c.loop-i in
    decides_end at_loop.invariant (within_end c.args.bounds.now c.args.n at_loop.i c.args.c c.loop-i-test.false c.requires)
