-- `entry::reply_placed` meets its contract, by the cases of what it is told. Assumes nothing.
use Rattle.call_signs.proofs.entry.reply_placed.Goals as goal

pub returns-in-Value : goal.returns-in-Value
returns-in-Value c = record { numbered = rw c.in-Value.is; out_left = rw c.in-Value.is }
