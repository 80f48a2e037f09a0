-- `moves::word_rows` meets its contract: it hands on what the move answers beside the table. Assumes nothing.
use Rattle.call_bytes.specs.Reply.{Reply}
use Rattle.call_bytes.proofs.Replies.{replied_of}
use Rattle.call_folds.specs.Terms.{word}
use Rattle.call_motion_rows.proofs.Tabled.{moves_by_table}
use Rattle.call_motion_rows.proofs.moves.word_rows.Goals as goal

pub returns : goal.returns
unfolding word
returns c =
    let given = c.args in
    replied_of (λ (m : Reply). m)
    (moves_by_table given.text.now given.starts.now given.content given.folds.now given.list.now 0 given.count
    c.word_of-m.ensures c.caret_of-k.ensures c.go_as-a.ensures c.landed.ensures) c.place.ensures
