-- `session::turn` meets its contract, by the cases of the count. Assumes nothing.
use Rattle.session.specs.Session.{counted}
use Rattle.session.proofs.turn.Goals as goal

pub returns-in-Some : goal.returns-in-Some
unfolding counted
returns-in-Some c = rw (← c.count_in.ensures, c.in-Some.is, ← c.key.ensures)
    c.press.ensures

pub returns-in-None : goal.returns-in-None
unfolding counted
returns-in-None c = rw (← c.count_in.ensures, c.in-None.is)
