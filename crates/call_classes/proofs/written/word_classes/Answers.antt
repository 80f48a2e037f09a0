-- `written::word_classes` meets its contract: it hands on what the call answers. Assumes nothing.
use Rattle.call_bytes.proofs.Replies.{replied_as}
use Rattle.call_classes.proofs.written.word_classes.Goals as goal

pub returns : goal.returns
returns c =
    let classes_told = c.classes_told.ensures in
    record { replied = replied_as classes_told.value c.reply.ensures; classes_after = classes_told.classes_after }
