-- `folds_read` meets its contract, by the answers of `read_folds`. Assumes nothing.
use Rattle.lists.proofs.Kit.{sym, ◌∙◌, arith}
use Rattle.fold_laws.proofs.Accepted.{loaded_most}
use Rattle.call_fold_file.proofs.Told.{read_folds, read_refused}
use Rattle.call_fold_file.proofs.folds_read.Goals as goal

pub returns-in-Folds : goal.returns-in-Folds
returns-in-Folds c =
    let given = c.args in
    record {
      replied = read_folds given.text.now given.file.now given.folds.now _
          (sym c.read_folds.ensures.answer ∙ c.in-Folds.is) c.reply.ensures;
      folds_after = c.read_folds.ensures.left;
    }

pub returns-in-Refused : goal.returns-in-Refused
returns-in-Refused c =
    let given = c.args in
    record {
      replied = read_refused given.text.now given.file.now given.folds.now _
          (sym c.read_folds.ensures.answer ∙ c.in-Refused.is) c.reply-in-Refused.ensures;
      folds_after = c.read_folds.ensures.left;
    }

pub overflow_cast-n : goal.overflow_cast-n
overflow_cast-n c = let given = c.args in
    omega (arith, loaded_most given.text.now given.file.now _ _ (sym c.read_folds.ensures.answer ∙ c.in-Folds.is))
