-- `plain::without_plus` meets its contract: it hands on what the call answers. Assumes nothing.
use Rattle.call_bytes.proofs.Replies.{replied_as}
use Rattle.call_signs.proofs.plain.without_plus.Goals as goal

pub returns : goal.returns
returns c =
    let plain_told_lem = c.plain_told.ensures in
    record { replied = replied_as plain_told_lem.value c.reply.ensures; written_after = plain_told_lem.written_after }
