-- `asks::go_as` meets its contract, by the cases of what is asked for. Assumes nothing.
use Rattle.call_motion_rows.specs.Asks.{rows_as}
use Rattle.call_motion_rows.proofs.asks.go_as.Goals as goal

pub returns-in-Some : goal.returns-in-Some
unfolding rows_as
returns-in-Some c = rw c.in-Some.is c.go_rows.ensures

pub returns-in-None : goal.returns-in-None
unfolding rows_as
returns-in-None c = rw c.in-None.is
