-- `wrap_segments` meets its contract: it hands on what the mode's call answers. Assumes nothing.
use Rattle.call_bytes.proofs.Replies.{replied_as}
use Rattle.call_rows.proofs.wraps.wrap_segments.Goals as goal

pub returns : goal.returns
returns c =
    let here = rw (c.setting_of.ensures, c.plain_of-plain.ensures) at c.segments_by.ensures in
    record { replied = replied_as here.answers c.reply.ensures; segments_after = here.leaves }
