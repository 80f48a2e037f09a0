-- `load` meets its contract, by the answers of the reader. Assumes nothing.
use Rattle.lists.proofs.Kit.{◌≡◌, sym, ◌∙◌, List, ℕ, arith, length, replicate, length-replicate}
use Rattle.fold_blocks.specs.Listed.{folds_in}
use Rattle.fold_trial.proofs.Rows.{fold_row_fits, refusal_row_fits, prints}
use Rattle.fold_trial.proofs.Answers.{loaded_front, loaded_counts, loaded_few, loaded_within, loaded_shown, loaded_refused}
use Rattle.fold_trial.proofs.runs.load.Goals as goal

-- the room that is lent
abbrev room : List ℕ
room = replicate 768 0

roomy : length room ≡ 768
roomy = length-replicate {A = ℕ} 768 0

pub overflow_mul-end : goal.overflow_mul-end
overflow_mul-end c =
    let given = c.args in
    omega (arith, loaded_few given.text.now given.file.now room roomy _ (sym c.read_folds.ensures.answer ∙ c.in-Folds.is))

pub slice_bounds-folds-end : goal.slice_bounds-folds-end
slice_bounds-folds-end c =
    let given = c.args in
    omega (arith, loaded_few given.text.now given.file.now room roomy _ (sym c.read_folds.ensures.answer ∙ c.in-Folds.is))

pub slice_bounds-put_folds-end : goal.slice_bounds-put_folds-end
slice_bounds-put_folds-end c =
    let given = c.args in
    loaded_counts given.text.now given.file.now room roomy _ _ (sym c.read_folds.ensures.answer ∙ c.in-Folds.is)
    c.read_folds.ensures.left

pub put_folds-requires : goal.put_folds-requires
put_folds-requires c =
    let given = c.args in
    let read_folds_is = sym c.read_folds.ensures.answer ∙ c.in-Folds.is in
    let front = loaded_front given.text.now given.file.now room roomy _ _ read_folds_is c.read_folds.ensures.left in
    record { few = rw front (loaded_within given.text.now given.file.now room roomy _ read_folds_is); room = c.requires }

pub returns-in-Folds : goal.returns-in-Folds
returns-in-Folds c =
    let given = c.args in
    let read_folds_is = sym c.read_folds.ensures.answer ∙ c.in-Folds.is in
    let front = loaded_front given.text.now given.file.now room roomy _ _ read_folds_is c.read_folds.ensures.left in
    let within = loaded_within given.text.now given.file.now room roomy _ read_folds_is in
    rw (loaded_shown given.text.now given.file.now room roomy _ read_folds_is)
    (prints (fold_row_fits (folds_in given.file.now) within) c.requires (rw front at c.put_folds.ensures))

pub returns-in-Refused : goal.returns-in-Refused
returns-in-Refused c =
    let given = c.args in
    rw (loaded_refused given.text.now given.file.now room roomy _ (sym c.read_folds.ensures.answer ∙ c.in-Refused.is))
    (prints (refusal_row_fits _) c.requires c.refuse.ensures)
