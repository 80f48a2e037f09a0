-- `content_row_count` meets its contract: it hands on what `content_row_count` answers. Assumes nothing.
use Rattle.lists.proofs.Kit.{ap, ◌∙◌}
use Rattle.call_texts.specs.Rows.{told_rows}
use Rattle.call_bytes.proofs.Replies.{replied_as}
use Rattle.call_texts.proofs.rows.content_row_count.Goals as goal

pub returns : goal.returns
returns c = replied_as (c.told_rows.ensures ∙ ap told_rows c.content_row_count.ensures) c.reply.ensures
