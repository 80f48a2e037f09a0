-- `edit_into` meets its contract: what the call answers, and leaves in all that it is lent, is compared. Assumes nothing.
use borrow.Author.Rules.{rules}
use Rattle.replay_edits.proofs.Comparing.{edited_compared}
use Rattle.replay_edits.proofs.edit_into.Goals as goal

pub returns : goal.returns
returns c = search (rules, edited_compared)
