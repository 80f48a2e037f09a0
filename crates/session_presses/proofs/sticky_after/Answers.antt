-- `sticky_after` meets its contract, by the cases of what becomes of the column. Assumes nothing.
use Rattle.session_presses.proofs.sticky_after.Goals as goal

pub returns-in-Cleared : goal.returns-in-Cleared
returns-in-Cleared c = rw c.in-Cleared.is

pub returns-in-Kept : goal.returns-in-Kept
returns-in-Kept c = rw c.in-Kept.is

pub returns-in-Ends : goal.returns-in-Ends
returns-in-Ends c = rw c.in-Ends.is
