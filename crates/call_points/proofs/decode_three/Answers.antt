-- `decode_three` meets its contract: the other two fill the rest that the first one left. Assumes nothing.
use Rattle.lists.proofs.Kit.{arith}
use Rattle.call_points.specs.Points.{filled_two}
use Rattle.call_points.proofs.Laws.{whole_is, three_is}
use Rattle.call_points.proofs.decode_three.Goals as goal

pub returns : goal.returns
returns c =
    let given = c.args in
    let decode_told = c.decode-n.ensures in
    three_is given.first.now given.second.now given.third.now given.room.now _
    (whole_is given.first.now given.room.now _ _ _ (filled_two given.second.now given.third.now) decode_told.count decode_told.room_left
    c.decode_two.ensures.room_left) (omega arith)
