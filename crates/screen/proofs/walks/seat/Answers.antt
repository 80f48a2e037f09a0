use Rattle.chars.specs.Width.{width_with}
use Rattle.screen.proofs.Landing.{seat_inside, seat_made}
use Rattle.screen.proofs.walks.seat.Goals as goal

pub ahead_of-requires : goal.ahead_of-requires
ahead_of-requires c =
    let given = c.args in
    let width = width_with given.by in
    seat_inside width given.t.now given.word given.width given.down given.l.row c.row-row.ensures given.col
    c.segment_count-count.ensures.count c.find_segment-part.ensures.part

pub returns : goal.returns
returns c =
    let given = c.args in
    let width = width_with given.by in
    seat_made width given.t.now given.word given.width given.down given.l.row c.row-row.ensures given.col
    c.segment_count-count.ensures.count c.find_segment-part.ensures.part _ _ c.ahead_of.ensures c.saturating_sub.ensures
