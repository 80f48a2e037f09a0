-- `decode` meets its contract. The loop's invariant: the first i code points stand in the room, the rest of it is as it was.
-- Assumes nothing.
use Rattle.lists.proofs.Kit.{◌≡◌, refl, ◌/◌, ◌<◌, arith, length, get_or}
use Rattle.call_points.specs.Points.{points}
use Rattle.call_points.proofs.Laws.{length_points, point_at, fill_on, filled_all_lem, take_filled}
use Rattle.call_points.proofs.decode.Goals as goal

-- the code point at i is stored
pub loop-i-preserved : goal.loop-i-preserved
loop-i-preserved c =
    let bytes_now = c.args.bytes.now in
    let room_now = c.args.room.now in
    let index = c.loop-i.i in
    let i_below : index < length (points bytes_now) = omega (arith, length_points bytes_now) in
    let word_is : c.from_le_bytes.result ≡ get_or (points bytes_now) index 0 =
    omega (arith, point_at bytes_now index (omega arith), c.from_le_bytes.ensures) in
    rw word_is
    (fill_on (points bytes_now) room_now c.loop-i.room index c.loop-i.invariant i_below (omega arith))

-- all are stored
pub returns : goal.returns
returns c =
    let bytes_now = c.args.bytes.now in
    let room_now = c.args.room.now in
    let i_is : c.loop-i.i ≡ length bytes_now / 4 = omega arith in
    let by_filled_all = filled_all_lem bytes_now room_now c.loop-i.room (rw i_is at c.loop-i.invariant) in
    record { count = refl; room_left = by_filled_all; within = omega arith; front = take_filled bytes_now room_now _ by_filled_all }
