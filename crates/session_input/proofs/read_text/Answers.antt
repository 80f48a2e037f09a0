-- `session_input::read_text` meets its contract, by the answers of the decoder; there is always room. Assumes nothing.
use Rattle.session_input.proofs.TextRead.{text_none, text_read}
use Rattle.session_input.proofs.read_text.Goals as goal

-- there is no text
pub returns-then-from-input : goal.returns-then-from-input
returns-then-from-input c = text_none _ _ _ c.if-from-input.true

pub returns : goal.returns
returns c =
    rw c.unwrap_or.ensures
    (text_read c.args.input.now c.args.from c.args.room.now _ c.requires _ c.decode.ensures.answer c.decode.ensures.left)
