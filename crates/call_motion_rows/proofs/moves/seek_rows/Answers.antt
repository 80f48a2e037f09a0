-- `moves::seek_rows` meets its contract: it hands on what the search answers beside the table. Assumes nothing.
use Rattle.call_bytes.specs.Reply.{Reply}
use Rattle.call_bytes.proofs.Replies.{replied_of}
use Rattle.call_texts.specs.Seeks.{seek}
use Rattle.call_motion_rows.proofs.Tabled.{seeks_by_table}
use Rattle.call_motion_rows.proofs.moves.seek_rows.Goals as goal

pub returns : goal.returns
unfolding seek
returns c =
    let given = c.args in
    replied_of (λ (m : Reply). m)
    (seeks_by_table given.text.now given.starts.now given.content c.seek_of-m.ensures c.caret_of-k.ensures
    c.go_as.ensures)
    c.tell.ensures
