-- `screen_segments::segment_count` meets its contract: the last segment tells how many there are. Assumes nothing.
use Rattle.lists.proofs.Kit.{arith}
use Rattle.chars.specs.Width.{width_with}
use Rattle.screen_segments.proofs.Finding.{last_counts}
use Rattle.screen_segments.proofs.segment_count.Goals as goal

pub returns : goal.returns
returns c =
    let given = c.args in
    let width = width_with given.by in
    record {
      count = last_counts width given.word given.width given.row.now c.find_segment-last.result
          c.find_segment-last.ensures.part;
      some = omega arith;
    }
