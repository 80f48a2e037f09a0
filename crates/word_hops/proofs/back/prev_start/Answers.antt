use Rattle.word_places.proofs.Walking.{backward_none, backward_on}
use Rattle.word_hops.specs.Hops.{prev_start}
use Rattle.word_hops.proofs.back.prev_start.Goals as goal

pub returns-then-i-eq0 : goal.returns-then-i-eq0
unfolding prev_start
returns-then-i-eq0 c = rw (backward_none _ c.if-i-eq0.true)

pub returns : goal.returns
unfolding prev_start
returns c = rw (backward_on _ c.if-i-eq0.false) c.start_from.ensures
