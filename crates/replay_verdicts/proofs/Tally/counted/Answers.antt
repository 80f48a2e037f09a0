-- `Tally::counted` meets its contract, by the cases of the verdict. Assumes nothing.
use Rattle.replay_verdicts.specs.Tallies.{counted}
use Rattle.replay_verdicts.proofs.Tally.counted.Goals as goal

pub returns-in-Agrees : goal.returns-in-Agrees
unfolding counted
returns-in-Agrees c = rw c.in-Agrees.is

pub returns-in-Differs : goal.returns-in-Differs
unfolding counted
returns-in-Differs c = rw c.in-Differs.is c.faulted.ensures

pub returns-in-Malformed : goal.returns-in-Malformed
unfolding counted
returns-in-Malformed c = rw c.in-Malformed.is c.faulted-in-Malformed.ensures
