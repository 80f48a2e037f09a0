-- `upright::vertical_rows` meets its contract: it hands on what the move answers beside the table. Assumes nothing.
use Rattle.lists.proofs.Kit.{ap, ◌∙◌, []}
use Rattle.motions.specs.declared.Moved.{Moved}
use Rattle.call_bytes.specs.Reply.{Reply}
use Rattle.call_bytes.proofs.Replies.{replied_of}
use Rattle.call_texts.specs.Carets.{moved}
use Rattle.call_motion_rows.specs.Asks.{by_table}
use Rattle.call_motion_rows.proofs.Tabled.{moves_by_table, vertical_asked}
use Rattle.call_motion_rows.proofs.upright.vertical_rows.Goals as goal

pub returns : goal.returns
returns c =
    let given = c.args in
    replied_of (λ (m : Reply). m)
    (moves_by_table given.text.now given.starts.now given.content given.folds.now [] given.tabstop given.count
    c.upright_by-m.ensures
    c.caret_of-k.ensures c.go_as-a.ensures c.landed.ensures
    ∙ ap (λ (x : Moved). by_table given.text.now given.starts.now given.content (moved x))
    (vertical_asked given.op given.mode given.width given.count given.tabstop _ given.text.now given.folds.now)) c.place.ensures
