-- `row_walks::toward::direction` meets its contract.
use Rattle.row_walks.proofs.toward.direction.Goals as goal

pub returns-then-forward : goal.returns-then-forward
returns-then-forward c = rw c.if-forward.true

pub returns-else-forward : goal.returns-else-forward
returns-else-forward c = rw c.if-forward.false
