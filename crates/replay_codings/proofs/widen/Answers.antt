-- `widen` meets its contract. The invariant of its loop: the first i bytes stand in the places. Assumes nothing.
use Rattle.lists.proofs.Kit.{sym, ◌∙◌, arith, length-set, take_all, rules}
use Rattle.replay_codings.proofs.Coded.{take_on}
use Rattle.replay_codings.proofs.widen.Goals as goal

pub returns : goal.returns
returns c =
    let at_loop = c.loop-i in
    let bytes_now = c.args.bytes.now in
    sym (take_all at_loop.i at_loop.numbers (omega arith)) ∙ at_loop.invariant ∙ take_all at_loop.i bytes_now (omega arith)

pub loop-i-preserved : goal.loop-i-preserved
loop-i-preserved c = search (rules, length-set, take_on)
