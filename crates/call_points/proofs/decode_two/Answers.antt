-- `decode_two` meets its contract: the second call fills the rest that the first one left. Assumes nothing.
use Rattle.lists.proofs.Kit.{arith}
use Rattle.call_points.specs.Points.{filled}
use Rattle.call_points.proofs.Laws.{whole_is, two_is}
use Rattle.call_points.proofs.decode_two.Goals as goal

pub returns : goal.returns
returns c =
    let given = c.args in
    let decode_told = c.decode-n.ensures in
    two_is given.first.now given.second.now given.room.now _
    (whole_is given.first.now given.room.now _ _ _ (filled given.second.now) decode_told.count decode_told.room_left
    c.decode.ensures.room_left) (omega arith)
