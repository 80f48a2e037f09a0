use Rattle.lists.proofs.Kit.{arith}
use Rattle.chars.specs.White.{is_white}
use Rattle.chars.specs.Width.{width_with}
use Rattle.row_segment.proofs.Step.{found_char, found_end, found_none, found_word}
use Rattle.row_segment.proofs.segment.first_segment.Goals as goal

pub returns-then-not-word : goal.returns-then-not-word
returns-then-not-word c =
    let char_segment_told = c.char_segment-n.ensures in
    let given = c.args in
    let by_found = found_char (width_with given.by) is_white _ _ _ char_segment_told.count (c.if-not-word.true) in
    record { count = by_found; some = char_segment_told.some; inside = char_segment_told.inside }

pub returns-then-n-row : goal.returns-then-n-row
returns-then-n-row c =
    let char_segment_told = c.char_segment-n.ensures in
    let given = c.args in
    let by_found = found_end (width_with given.by) is_white _ _ _ char_segment_told.count c.if-n-row.true in
    record { count = by_found; some = char_segment_told.some; inside = char_segment_told.inside }

pub returns-then-k-eq0 : goal.returns-then-k-eq0
returns-then-k-eq0 c =
    let char_segment_told = c.char_segment-n.ensures in
    let given = c.args in
    record {
      count = found_none (width_with given.by) is_white _ _ _ char_segment_told.count c.after_white-k.ensures
          c.if-k-eq0.true;
      some = char_segment_told.some;
      inside = char_segment_told.inside;
    }

pub returns : goal.returns
returns c =
    let char_segment_told = c.char_segment-n.ensures in
    let given = c.args in
    found_word (width_with given.by) is_white _ _ _ char_segment_told.count c.after_white-k.ensures
    (c.if-not-word.false) (omega arith) c.if-k-eq0.false
