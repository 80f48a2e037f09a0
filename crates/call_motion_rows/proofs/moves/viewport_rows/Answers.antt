-- `moves::viewport_rows` meets its contract: it hands on what the move answers beside the table. Assumes nothing.
use Rattle.lists.proofs.Kit.{[]}
use Rattle.call_bytes.specs.Reply.{Reply}
use Rattle.call_bytes.proofs.Replies.{replied_of}
use Rattle.call_texts.specs.Viewports.{viewport}
use Rattle.call_motion_rows.proofs.Tabled.{moves_by_table}
use Rattle.call_motion_rows.proofs.moves.viewport_rows.Goals as goal

pub returns : goal.returns
unfolding viewport
returns c =
    let given = c.args in
    replied_of (λ (m : Reply). m)
    (moves_by_table given.text.now given.starts.now given.content [] [] 0 1 c.edge_of-m.ensures c.caret_of-k.ensures
    c.go_as-a.ensures c.landed.ensures) c.place.ensures
