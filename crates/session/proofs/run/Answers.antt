-- `session::run` meets its contract: the room's first places hold the text. Assumes nothing.
use Rattle.session.proofs.run.Goals as goal

pub returns : goal.returns
returns c =
    rw c.read_text-n.ensures.front at c.lines.ensures
