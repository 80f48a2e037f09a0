-- `folds_write` meets its contract, by the answers of `write_folds`. Assumes nothing.
use Rattle.lists.proofs.Kit.{sym, ◌∙◌, arith}
use Rattle.fold_laws.proofs.Accepted.{written_most}
use Rattle.call_fold_file.proofs.Told.{write_bytes, write_refused}
use Rattle.call_fold_file.proofs.folds_write.Goals as goal

pub returns-in-Bytes : goal.returns-in-Bytes
returns-in-Bytes c =
    let given = c.args in
    record {
      replied = write_bytes given.text.now given.folds.now given.file.now _
          (sym c.write_folds.ensures.answer ∙ c.in-Bytes.is) c.reply.ensures;
      file_after = c.write_folds.ensures.left;
    }

pub returns-in-Refused : goal.returns-in-Refused
returns-in-Refused c =
    let given = c.args in
    record {
      replied = write_refused given.text.now given.folds.now given.file.now _
          (sym c.write_folds.ensures.answer ∙ c.in-Refused.is) c.reply-in-Refused.ensures;
      file_after = c.write_folds.ensures.left;
    }

pub overflow_cast-n : goal.overflow_cast-n
overflow_cast-n c = let given = c.args in
    omega (arith, written_most given.text.now given.folds.now _ _ (sym c.write_folds.ensures.answer ∙ c.in-Bytes.is))
