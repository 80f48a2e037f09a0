-- `asks::seek_as` meets its contract, by the cases of what is asked for. Assumes nothing.
use Rattle.call_texts.specs.Asks.{seek_as}
use Rattle.call_texts.proofs.asks.seek_as.Goals as goal

pub returns-in-Some : goal.returns-in-Some
unfolding seek_as
returns-in-Some c = rw c.in-Some.is c.go.ensures

pub returns-in-None : goal.returns-in-None
unfolding seek_as
returns-in-None c = rw c.in-None.is
