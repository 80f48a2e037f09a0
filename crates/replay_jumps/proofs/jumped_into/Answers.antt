-- `jumped_into` meets its contract: what the call answers, and leaves in both lent slices, is compared. Assumes nothing.
use Rattle.replay_jumps.specs.Jumps.{jumped_into}
use Rattle.replay_jumps.proofs.Leaving.{jumped_compared}
use Rattle.replay_jumps.proofs.jumped_into.Goals as goal

pub returns : goal.returns
unfolding jumped_into
returns c =
    let left = c.jumps-n.ensures in
    jumped_compared _ left.replied left.answers_after c.compared_both.ensures
