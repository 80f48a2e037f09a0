-- `folds::folds::fold_refusal` meets its contract. The invariant of its loop: the folds that are left decide. Assumes nothing.
use Rattle.lists.proofs.Kit.{◌∙◌, arith, eq-eqb, ne_eqb, lt-ltb, le-ltb}
use Rattle.folds.specs.Folds.{bad_fold, fold_refusal}
use Rattle.folds.proofs.Hiding.{any_fold_next, any_fold_few}
use Rattle.folds.proofs.folds.fold_refusal.Goals as goal

pub returns-then-folds-ne0 : goal.returns-then-folds-ne0
unfolding fold_refusal
returns-then-folds-ne0 c = rw (ne_eqb _ _ c.if-folds-ne0.true)

pub returns-then-folds-gt256 : goal.returns-then-folds-gt256
unfolding fold_refusal
returns-then-folds-gt256 c = rw (eq-eqb _ _ c.if-folds-ne0.false, lt-ltb _ _ c.if-folds-gt256.true)

pub returns-then-bad_fold : goal.returns-then-bad_fold
unfolding fold_refusal
returns-then-bad_fold c =
    let step = c.in-Some.ensures.steps in
    let three = step.1.1 ∙ c.loop-fold.invariant.three in
    rw (
      eq-eqb _ _ c.if-folds-ne0.false,
      le-ltb _ _ c.if-folds-gt256.false,
      c.loop-fold.invariant.rest,
      any_fold_next _ _ _ step.1.0 three (bad_fold c.args.rows),
      ← c.bad_fold.ensures,
      c.if-bad_fold.true,
    )

pub loop-fold-preserved : goal.loop-fold-preserved
loop-fold-preserved c =
    let step = c.in-Some.ensures.steps in
    let three = step.1.1 ∙ c.loop-fold.invariant.three in
    record {
      three = step.0 ∙ c.loop-fold.invariant.three;
      rest = c.loop-fold.invariant.rest ∙ rw (
        any_fold_next _ _ _ step.1.0 three (bad_fold c.args.rows),
        ← c.bad_fold.ensures,
        c.if-bad_fold.false,
      );
    }

pub returns : goal.returns
unfolding fold_refusal
returns c =
    rw (
      eq-eqb _ _ c.if-folds-ne0.false,
      le-ltb _ _ c.if-folds-gt256.false,
      c.loop-fold.invariant.rest,
      any_fold_few (bad_fold c.args.rows) c.loop-fold.fold-iterator.rest.now (omega (arith, c.in-None.ensures.steps, c.loop-fold.invariant.three)),
    )
