-- `keywords` meets its contract: it hands on what the operation answers. Assumes nothing.
use Rattle.call_bytes.proofs.Replies.{replied_as}
use Rattle.call_rows.proofs.keyword_lists.keywords.Goals as goal

pub returns : goal.returns
returns c = replied_as c.keyword_by.ensures c.reply.ensures
