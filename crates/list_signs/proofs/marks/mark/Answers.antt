-- `list_signs::marks::mark` meets its contract: the test is that of the definition. Assumes nothing.
use Rattle.list_signs.proofs.marks.mark.Goals as goal

pub returns-then-on : goal.returns-then-on
returns-then-on c = rw c.if-on.true
