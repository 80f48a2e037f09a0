-- `asks::move_as` meets its contract, by the cases of what is asked for. Assumes nothing.
use Rattle.call_texts.specs.Asks.{move_as}
use Rattle.call_texts.proofs.asks.move_as.Goals as goal

pub returns-in-Some : goal.returns-in-Some
unfolding move_as
returns-in-Some c = rw c.in-Some.is c.moved_by.ensures

pub returns-in-None : goal.returns-in-None
unfolding move_as
returns-in-None c = rw c.in-None.is
