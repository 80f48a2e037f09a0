-- `utf8_encode` meets its contract, by the answers of the encoder. Assumes nothing.
use Rattle.lists.proofs.Kit.{sym, ◌∙◌, arith}
use Rattle.utf8.proofs.Sizes.{encoded_most}
use Rattle.call_utf8.proofs.Told.{encode_bytes, encode_refused}
use Rattle.call_utf8.proofs.utf8_encode.Goals as goal

pub overflow_cast-n : goal.overflow_cast-n
overflow_cast-n c =
    let given = c.args in
    omega (arith, encoded_most given.points.now _ _ (sym c.encode.ensures.answer ∙ c.in-Ok.is))

pub returns-in-Ok : goal.returns-in-Ok
returns-in-Ok c =
    let given = c.args in
    record {
      replied = encode_bytes given.points.now given.bytes.now _ (sym c.encode.ensures.answer ∙ c.in-Ok.is)
          c.reply.ensures;
      bytes_after = c.encode.ensures.left;
    }

pub returns-in-Err : goal.returns-in-Err
returns-in-Err c =
    let given = c.args in
    record {
      replied = encode_refused given.points.now given.bytes.now _ (sym c.encode.ensures.answer ∙ c.in-Err.is)
          (rw c.number.ensures at c.reply-in-Err.ensures);
      bytes_after = c.encode.ensures.left;
    }
