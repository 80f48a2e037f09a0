-- `row_columns` meets its contract: it hands on what the operation answers. Assumes nothing.
use Rattle.call_bytes.proofs.Replies.{replied_as}
use Rattle.call_rows.proofs.tabs.columns.Goals as goal

pub returns : goal.returns
returns c =
    replied_as (rw (c.setting_of.ensures, c.plain_of-plain.ensures) at c.column_by.ensures) c.reply.ensures
