use Rattle.lists.proofs.Kit.{ap, List, ℕ, arith}
use Rattle.chars.specs.Width.{width_with}
use Rattle.text.proofs.Parts.{row_fits}
use Rattle.screen_segments.specs.Parts.{segment_count, lay_of}
use Rattle.screen.proofs.Landing.{part_starts, place_is}
use Rattle.screen.proofs.walks.land.Goals as goal

pub ahead_of-index-requires : goal.ahead_of-index-requires
ahead_of-index-requires c =
    let given = c.args in
    let width = width_with given.by in
    omega (
      arith,
      c.segment_count-count.ensures.count,
      ap (λ (x : List ℕ). segment_count (lay_of width given.word given.width x)) c.row-row.ensures,
      c.requires.spot.inside,
    )

pub clamp_to_segment-requires : goal.clamp_to_segment-requires
clamp_to_segment-requires c =
    let given = c.args in
    let width = width_with given.by in
    let by_part_starts = part_starts width given.t.now given.word given.width given.down given.s.row c.row-row.ensures
    given.s.ahead c.segment_count-count.ensures.count
    c.ahead_of-index.ensures c.find_segment-part.ensures.part c.requires.spot.inside in
    omega (arith, by_part_starts, row_fits given.t.now given.s.row c.requires.spot.line.in_row, c.requires.brief, c.requires.small)

pub returns : goal.returns
returns c =
    let given = c.args in
    let width = width_with given.by in
    place_is width given.t.now given.word given.width given.down given.s.row c.row-row.ensures given.s.ahead
    c.segment_count-count.ensures.count c.ahead_of-index.ensures c.find_segment-part.ensures.part
    c.requires.spot.inside given.offset _ c.clamp_to_segment.ensures
