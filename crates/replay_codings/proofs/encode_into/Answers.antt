-- `encode_into` meets its contract: what the call answers, and leaves in both lent places, is compared. Assumes nothing.
use Rattle.lists.proofs.Kit.{◌∙◌}
use Rattle.replay_codings.proofs.Coded.{encoded_compared}
use Rattle.replay_codings.proofs.encode_into.Goals as goal

pub returns : goal.returns
returns c =
    let given = c.args in
    let utf8_encode_told = c.utf8_encode-told.ensures in
    encoded_compared given.points.now given.bytes.now given.stored.now utf8_encode_told.replied
    (rw (c.widen.ensures ∙ utf8_encode_told.bytes_after) at c.compared_two.ensures)
