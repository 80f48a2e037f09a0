-- `folds::folds::prev_visible_row` meets its contract. The invariant of its loop: the last row seen before r is the answer.
-- The measure is r. Assumes nothing.
use Rattle.lists.proofs.Kit.{sym, ◌∙◌, ◌-◌, arith}
use Rattle.folds.proofs.Past.{said, prev_jump, prev_here, prev_none}
use Rattle.folds.proofs.folds.prev_visible_row.Goals as goal

-- the fold that hides the row before r starts before that
pub overflow_add-r : goal.overflow_add-r
overflow_add-r c =
    let by_said = said c.args.folds.now (c.loop-r.r - 1) _ (sym c.in-Some.is ∙ c.cover.ensures) in
    omega (arith, by_said.0)

pub loop-r-smaller : goal.loop-r-smaller
loop-r-smaller c =
    let by_said = said c.args.folds.now (c.loop-r.r - 1) _ (sym c.in-Some.is ∙ c.cover.ensures) in
    omega (arith, by_said.0)

pub loop-r-preserved : goal.loop-r-preserved
loop-r-preserved c =
    let folds = c.args.folds.now in
    c.loop-r.invariant ∙ prev_jump folds c.loop-r.r _ _ (said folds (c.loop-r.r - 1) _ (sym c.in-Some.is ∙ c.cover.ensures))

pub returns-in-None : goal.returns-in-None
returns-in-None c =
    let folds = c.args.folds.now in
    let by_said = said folds (c.loop-r.r - 1) _ (sym c.in-None.is ∙ c.cover.ensures) in
    sym (c.loop-r.invariant ∙ prev_here folds c.loop-r.r by_said c.loop-r-test.true)

pub returns : goal.returns
returns c = sym (c.loop-r.invariant ∙ prev_none c.args.folds.now c.loop-r.r c.loop-r-test.false)
