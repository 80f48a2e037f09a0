-- `Tally::faulted` meets its contract, by the test of the definition. Assumes nothing.
use Rattle.lists.proofs.Kit.{eq-eqb, ne_eqb}
use Rattle.replay_verdicts.specs.Tallies.{faulted}
use Rattle.replay_verdicts.proofs.Tally.faulted.Goals as goal

pub returns-then-self-eq0 : goal.returns-then-self-eq0
unfolding faulted
returns-then-self-eq0 c = rw (eq-eqb _ 0 c.if-self-eq0.true)

pub returns : goal.returns
unfolding faulted
returns c = rw (ne_eqb _ 0 c.if-self-eq0.false)
