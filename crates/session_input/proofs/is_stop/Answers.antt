-- `session_input::is_stop` meets its contract: `==` tells whether a row and the full stop are the same. Assumes nothing.
use Rattle.lists.specs.Codes.{codes}
use Rattle.session_row.specs.Commands.{Same}
use Rattle.session_row.proofs.Laws.{eq_told}
use Rattle.session_input.proofs.is_stop.Goals as goal

pub returns : goal.returns
unfolding codes
returns c = (eq_told _ _ (rw c.as_slice.ensures at c.eq.ensures)).is
