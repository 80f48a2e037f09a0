-- `load_in` meets its contract, by the length of the file and the check of the text. Assumes nothing.
use Rattle.lists.proofs.Kit.{sym, ◌∙◌, length-take-le}
use Rattle.session_input.proofs.TextRead.{check_tells}
use Rattle.fold_trial.proofs.Rows.{unread_fits, prints}
use Rattle.fold_trial.proofs.Inputs.{load_long, load_good, load_bad}
use Rattle.fold_trial.proofs.runs.load_in.Goals as goal

pub returns-then-n-bytes : goal.returns-then-n-bytes
returns-then-n-bytes c =
    let given = c.args in
    rw (load_long given.n given.bytes.now c.if-n-bytes.true) (prints unread_fits c.requires.room c.not_read.ensures)

pub returns-then-is_err : goal.returns-then-is_err
returns-then-is_err c =
    let given = c.args in
    let bad = sym (check_tells _ c.check.ensures) ∙ sym c.is_err.ensures.value ∙ c.if-is_err.true in
    rw (load_bad given.n given.bytes.now c.if-n-bytes.false bad) (prints unread_fits c.requires.room c.not_read-then-is_err.ensures)

pub slice_bounds-load-end-2 : goal.slice_bounds-load-end-2
slice_bounds-load-end-2 c =
    sym (length-take-le _ _ c.if-n-bytes.false)

pub returns : goal.returns
returns c =
    let given = c.args in
    let good = sym (check_tells _ c.check.ensures) ∙ sym c.is_err.ensures.value ∙ c.if-is_err.false in
    rw (load_good given.n given.bytes.now c.if-n-bytes.false good) (rw c.read_text-m.ensures.front at c.load.ensures)
