-- `store` meets its contract, by the answers of the writer. Assumes nothing.
use Rattle.lists.proofs.Kit.{ap, sym, ◌∙◌, length}
use Rattle.fold_trial.proofs.Rows.{refusal_row_fits, prints}
use Rattle.fold_trial.proofs.Answers.{stored_bytes, stored_kept, stored_refused}
use Rattle.fold_trial.proofs.runs.store.Goals as goal

pub returns-in-Bytes : goal.returns-in-Bytes
returns-in-Bytes c =
    let given = c.args in
    stored_bytes given.text.now given.folds.now given.out.now c.requires _ _ (sym c.write_folds.ensures.answer ∙ c.in-Bytes.is)
    c.write_folds.ensures.left

pub returns-in-Refused : goal.returns-in-Refused
returns-in-Refused c =
    let given = c.args in
    let write_folds_is = sym c.write_folds.ensures.answer ∙ c.in-Refused.is in
    let kept = c.write_folds.ensures.left ∙ stored_kept given.text.now given.folds.now given.out.now c.requires _ write_folds_is in
    rw (stored_refused given.text.now given.folds.now given.out.now c.requires _ write_folds_is)
    (prints (refusal_row_fits _) (ap length kept ∙ c.requires) c.refuse.ensures)
