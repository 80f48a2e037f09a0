-- `checks::checks` meets its contract, move by move. Assumes nothing.
use Rattle.lists.proofs.Kit.{ap, ◌∙◌, ℕ}
use Rattle.positions.specs.Positions.{or_folds}
use Rattle.motions.specs.Checks.{or_stop}
use Rattle.motions.proofs.Fitting.{part_count}
use Rattle.motions.proofs.checks.checks.Goals as goal

-- a word motion: the folds that it takes
pub slice_bounds-or_folds-end : goal.slice_bounds-or_folds-end
slice_bounds-or_folds-end c = part_count c.args.folds.now c.taken-n.ensures.inside

pub returns-in-Word : goal.returns-in-Word
returns-in-Word c =
    let entry = c.args.e in
    rw c.in-Word.is (c.or_folds.ensures ∙ ap (or_folds entry) c.taken-n.ensures.part)

pub returns-in-Rows : goal.returns-in-Rows
returns-in-Rows c =
    let given = c.args in
    rw c.in-Rows.is (c.or_stop.ensures ∙ ap (λ (f : ℕ). or_stop f given.tabstop) c.or_folds-in-Rows.ensures)

pub returns-in-Screen : goal.returns-in-Screen
returns-in-Screen c =
    let given = c.args in
    rw c.in-Screen.is (c.or_stop-in-Screen.ensures ∙ ap (λ (f : ℕ). or_stop f given.tabstop) c.or_folds-in-Screen.ensures)

pub returns-in-ScreenKept : goal.returns-in-ScreenKept
returns-in-ScreenKept c =
    let given = c.args in
    rw c.in-ScreenKept.is (c.or_stop-in-ScreenKept.ensures ∙ ap (λ (f : ℕ). or_stop f given.tabstop) c.or_folds-in-ScreenKept.ensures)

pub returns-in-Find : goal.returns-in-Find
returns-in-Find c = rw c.in-Find.is c.or_sought.ensures
