-- `tsivareza_wrap_segments` meets its contract: the room is filled, and the call on code points answers. Assumes nothing.
use Rattle.lists.proofs.Kit.{List, ℕ}
use Rattle.call_bytes.specs.Reply.{told}
use Rattle.call_rows.specs.Wraps.{segmented, segments_left}
use Rattle.call_bytes.proofs.Replies.{answered_one, left_fit}
use Rattle.exports.proofs.Parts.{parts}
use Rattle.exports.proofs.wraps.tsivareza_wrap_segments.Goals as goal

-- the call on code points answers
pub returns : goal.returns
returns c =
    let given = c.args in
    let fill_told = c.fill-f.ensures in
    let wrap_segments_told = c.wrap_segments.ensures in
    record {
      answered = answered_one fill_told (λ (t : List ℕ). told (segmented given.mode given.width given.segments.now t)) c.if-f-ne0.false
          wrap_segments_told.replied;
      segments_after = left_fit fill_told (segments_left given.mode given.width given.segments.now) c.if-f-ne0.false _ wrap_segments_told.segments_after;
    }

pub returns-then-f-ne0 : goal.returns-then-f-ne0
returns-then-f-ne0 c = search parts

pub slice_bounds-wrap_segments-end : goal.slice_bounds-wrap_segments-end
slice_bounds-wrap_segments-end c = search parts

pub slice_bounds-wrap_segments-end-2 : goal.slice_bounds-wrap_segments-end-2
slice_bounds-wrap_segments-end-2 c = search parts
