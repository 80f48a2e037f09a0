-- `entry::enter` meets its contract: it hands on what the operation answers. Assumes nothing.
use Rattle.call_signs.proofs.entry.enter.Goals as goal

pub returns : goal.returns
returns c = rw (← c.enter_by.ensures) c.reply_placed.ensures
