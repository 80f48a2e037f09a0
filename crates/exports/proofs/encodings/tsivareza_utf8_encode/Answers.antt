-- `tsivareza_utf8_encode` meets its contract: the room is filled, and the call on code points answers. Assumes nothing.
use Rattle.lists.proofs.Kit.{List, ℕ}
use Rattle.call_utf8.specs.Utf8.{encodes}
use Rattle.utf8.specs.Calls.{encoded_in}
use Rattle.call_bytes.proofs.Replies.{answered_one, left_fit}
use Rattle.exports.proofs.Parts.{parts}
use Rattle.exports.proofs.encodings.tsivareza_utf8_encode.Goals as goal

-- the call on code points answers
pub returns : goal.returns
returns c =
    let given = c.args in
    let fill_told = c.fill-f.ensures in
    let utf8_encode_told = c.utf8_encode.ensures in
    record { answered = answered_one fill_told (λ (t : List ℕ). encodes t given.bytes.now) c.if-f-ne0.false utf8_encode_told.replied; bytes_after = left_fit fill_told (λ (t : List ℕ). encoded_in t given.bytes.now) c.if-f-ne0.false _ utf8_encode_told.bytes_after }

pub returns-then-f-ne0 : goal.returns-then-f-ne0
returns-then-f-ne0 c = search parts

pub slice_bounds-utf8_encode-end : goal.slice_bounds-utf8_encode-end
slice_bounds-utf8_encode-end c = search parts

pub slice_bounds-utf8_encode-end-2 : goal.slice_bounds-utf8_encode-end-2
slice_bounds-utf8_encode-end-2 c = search parts
