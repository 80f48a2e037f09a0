-- `character` meets its contract: it hands on the fact. Assumes nothing.
use Rattle.call_bytes.proofs.Replies.{replied_as}
use Rattle.call_rows.proofs.characters.character.Goals as goal

pub returns : goal.returns
returns c = replied_as c.fact_of.ensures c.reply.ensures
