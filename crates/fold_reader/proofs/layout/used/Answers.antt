-- `layout::used` meets its contract. The invariant of its loop: what was found, or is to come. Assumes nothing.
use Rattle.lists.proofs.Any.{finds_on, finds_end}
use Rattle.fold_reader.proofs.layout.used.Goals as goal

pub loop-x-preserved : goal.loop-x-preserved
loop-x-preserved c = finds_on c.loop-x.invariant c.loop-x-test.true

pub returns : goal.returns
returns c = finds_end c.loop-x.invariant c.loop-x-test.false
