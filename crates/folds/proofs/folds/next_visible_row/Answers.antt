-- `folds::folds::next_visible_row` meets its contract. The invariant of its loop: the first row seen from r on is the answer.
-- The measure is the rows less r. Assumes nothing.
use Rattle.lists.proofs.Kit.{refl, sym, ◌∙◌, arith}
use Rattle.folds.proofs.Past.{said, folds_good, next_jump, next_here, next_none}
use Rattle.folds.proofs.folds.next_visible_row.Goals as goal

pub loop-r-init : goal.loop-r-init
loop-r-init c =
    record { within = omega arith; good = folds_good c.args.folds.now c.args.rows c.requires.0; rest = refl }

-- the fold that hides r ends at or after it, and inside the rows
pub overflow_add-r-in-Some : goal.overflow_add-r-in-Some
overflow_add-r-in-Some c =
    let given = c.args in
    let by_said = said given.folds.now c.loop-r.r _ (sym c.in-Some.is ∙ c.cover.ensures) in
    omega (arith, by_said.3 given.rows c.loop-r.invariant.good)

pub loop-r-smaller : goal.loop-r-smaller
loop-r-smaller c =
    let given = c.args in
    let by_said = said given.folds.now c.loop-r.r _ (sym c.in-Some.is ∙ c.cover.ensures) in
    omega (arith, by_said.1)

pub loop-r-preserved : goal.loop-r-preserved
loop-r-preserved c =
    let given = c.args in
    let by_said = said given.folds.now c.loop-r.r _ (sym c.in-Some.is ∙ c.cover.ensures) in
    record {
      within = omega (arith, by_said.3 given.rows c.loop-r.invariant.good);
      good = c.loop-r.invariant.good;
      rest = c.loop-r.invariant.rest ∙ next_jump given.folds.now given.rows c.loop-r.r _ _ by_said c.loop-r.invariant.good
          c.loop-r-test.true;
    }

pub returns-in-None : goal.returns-in-None
returns-in-None c =
    let given = c.args in
    let by_said = said given.folds.now c.loop-r.r _ (sym c.in-None.is ∙ c.cover.ensures) in
    sym (c.loop-r.invariant.rest ∙ next_here given.folds.now given.rows c.loop-r.r by_said c.loop-r-test.true)

pub returns : goal.returns
returns c =
    let given = c.args in
    sym (c.loop-r.invariant.rest ∙ next_none given.folds.now given.rows c.loop-r.r c.loop-r-test.false)
