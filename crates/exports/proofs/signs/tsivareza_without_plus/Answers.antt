-- `tsivareza_without_plus` meets its contract: the room is filled, and the call on code points answers. Assumes nothing.
use Rattle.lists.proofs.Kit.{List, ℕ}
use Rattle.call_bytes.specs.Reply.{told}
use Rattle.list_signs.specs.Plain.{plain_in}
use Rattle.call_signs.specs.Plain.{plain_told}
use Rattle.call_bytes.proofs.Replies.{answered_one, left_fit}
use Rattle.exports.proofs.Parts.{parts}
use Rattle.exports.proofs.signs.tsivareza_without_plus.Goals as goal

-- the call on code points answers
pub returns : goal.returns
returns c =
    let given = c.args in
    let fill_told = c.fill-f.ensures in
    let without_plus_told = c.without_plus.ensures in
    record { answered = answered_one fill_told (λ (t : List ℕ). told (plain_told given.written.now t)) c.if-f-ne0.false without_plus_told.replied; written_after = left_fit fill_told (λ (t : List ℕ). plain_in t given.written.now) c.if-f-ne0.false _ without_plus_told.written_after }

pub returns-then-f-ne0 : goal.returns-then-f-ne0
returns-then-f-ne0 c = search parts

pub slice_bounds-without_plus-end : goal.slice_bounds-without_plus-end
slice_bounds-without_plus-end c = search parts

pub slice_bounds-without_plus-end-2 : goal.slice_bounds-without_plus-end-2
slice_bounds-without_plus-end-2 c = search parts
