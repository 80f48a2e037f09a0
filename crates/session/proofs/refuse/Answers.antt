use Rattle.lists.specs.Codes.{codes}
use Rattle.session.proofs.refuse.Goals as goal

pub returns : goal.returns
unfolding codes
returns c = c.put_bytes.ensures
