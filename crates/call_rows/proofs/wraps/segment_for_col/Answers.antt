-- `segment_for_col` meets its contract: it hands on what `segment_for_col` answers. Assumes nothing.
use Rattle.lists.proofs.Kit.{◌∙◌, ap}
use Rattle.call_rows.specs.Wraps.{told_segment}
use Rattle.call_bytes.proofs.Replies.{replied_as}
use Rattle.call_rows.proofs.wraps.segment_for_col.Goals as goal

pub returns : goal.returns
returns c = replied_as (c.told_segment.ensures ∙ ap told_segment c.segment_for_col.ensures) c.reply.ensures
