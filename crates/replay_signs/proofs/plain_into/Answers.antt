-- `plain_into` meets its contract: what the call answers, and leaves in both lent places, is compared. Assumes nothing.
use Rattle.call_signs.specs.Plain.{plain_told}
use Rattle.replay_signs.specs.Signs.{plain_into}
use Rattle.replay_verdicts.proofs.Comparing.{wrapped_compared}
use Rattle.replay_signs.proofs.plain_into.Goals as goal

pub returns : goal.returns
unfolding plain_into
returns c =
    let given = c.args in
    let without_plus_told = c.without_plus-n.ensures in
    rw (← without_plus_told.written_after) (wrapped_compared (plain_told given.written.now given.list.now) _ _ without_plus_told.replied c.compared_two.ensures)
