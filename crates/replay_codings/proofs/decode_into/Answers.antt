-- `decode_into` meets its contract: what the call answers, and leaves in both lent places, is compared. Assumes nothing.
use Rattle.replay_codings.proofs.Coded.{decoded_compared}
use Rattle.replay_codings.proofs.decode_into.Goals as goal

pub returns : goal.returns
returns c =
    let given = c.args in
    let utf8_decode_told = c.utf8_decode-told.ensures in
    decoded_compared given.bytes.now given.points.now given.stored.now utf8_decode_told.replied
    (rw utf8_decode_told.points_after at c.compared_three.ensures)
