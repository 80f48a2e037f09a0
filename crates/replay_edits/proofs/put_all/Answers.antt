-- `put_all` meets its contract. Assumes nothing.
use Rattle.lists.proofs.Kit.{arith}
use Rattle.replay_edits.proofs.Comparing.{wrote_put}
use Rattle.replay_edits.proofs.put_all.Goals as goal

pub returns : goal.returns
returns c = wrote_put c.copy_from_slice.ensures.after (omega arith) c.requires (omega arith)
