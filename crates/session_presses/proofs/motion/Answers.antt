-- `motion` meets its contract: the list in the code is the definition's. Assumes nothing.
use Rattle.lists.specs.Codes.{codes}
use Rattle.session_presses.proofs.motion.Goals as goal

pub returns : goal.returns
unfolding codes
returns c = c.moved_by.ensures
