-- `Reader::star` meets its contract, by the test of the definition. Assumes nothing.
use Rattle.replay_rows.specs.Rows.{star}
use Rattle.replay_rows.proofs.Reader.star.Goals as goal

pub returns-then-self : goal.returns-then-self
unfolding star
returns-then-self c = rw c.if-self.true

pub returns : goal.returns
unfolding star
returns c = rw c.if-self.false c.spoilt.ensures
