-- `moves::motion_rows` meets its contract: it hands on what the move answers beside the table. Assumes nothing.
use Rattle.lists.proofs.Kit.{[]}
use Rattle.call_bytes.specs.Reply.{Reply}
use Rattle.call_bytes.proofs.Replies.{replied_of}
use Rattle.call_texts.specs.Moves.{motion}
use Rattle.call_motion_rows.proofs.Tabled.{moves_by_table}
use Rattle.call_motion_rows.proofs.moves.motion_rows.Goals as goal

pub returns : goal.returns
unfolding motion
returns c =
    let given = c.args in
    replied_of (λ (m : Reply). m)
    (moves_by_table given.text.now given.starts.now given.content [] [] 0 given.count c.way_of-m.ensures c.caret_of-k.ensures
    c.go_as-a.ensures c.landed.ensures) c.place.ensures
