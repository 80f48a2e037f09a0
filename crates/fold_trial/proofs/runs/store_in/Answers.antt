-- `store_in` meets its contract, by the check of the text. Assumes nothing.
use Rattle.lists.proofs.Kit.{sym, ◌∙◌}
use Rattle.session_input.proofs.TextRead.{check_tells}
use Rattle.fold_trial.proofs.Rows.{unread_fits, prints}
use Rattle.fold_trial.proofs.Inputs.{store_good, store_bad}
use Rattle.fold_trial.proofs.runs.store_in.Goals as goal

pub returns-then-is_err : goal.returns-then-is_err
returns-then-is_err c =
    let given = c.args in
    let bad = sym (check_tells given.bytes.now c.check.ensures) ∙ sym c.is_err.ensures.value ∙ c.if-is_err.true in
    rw (store_bad given.bytes.now given.folds.now bad) (prints unread_fits c.requires.room c.not_read.ensures)

pub returns : goal.returns
returns c =
    let given = c.args in
    let good = sym (check_tells given.bytes.now c.check.ensures) ∙ sym c.is_err.ensures.value ∙ c.if-is_err.false in
    rw (store_good given.bytes.now given.folds.now good) (rw c.read_text-n.ensures.front at c.store.ensures)
