-- `held` meets its contract, by the cases of the answer. Assumes nothing.
use Rattle.session_presses.proofs.held.Goals as goal

pub returns-in-To : goal.returns-in-To
returns-in-To c = rw (c.in-To.is, c.with.ensures, c.sticky_after.ensures)

pub returns-in-Refused : goal.returns-in-Refused
returns-in-Refused c = rw c.in-Refused.is
