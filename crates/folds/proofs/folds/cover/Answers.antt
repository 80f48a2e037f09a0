-- `folds::folds::cover` meets its contract. The invariant of its loop: the folds that are left decide. Assumes nothing.
use Rattle.lists.proofs.Kit.{sym, ◌∙◌, arith}
use Rattle.folds.proofs.Hiding.{cover_next, cover_few}
use Rattle.folds.proofs.folds.cover.Goals as goal

pub returns-then-fold_hides : goal.returns-then-fold_hides
returns-then-fold_hides c =
    let step = c.in-Some.ensures.steps in
    let three = step.1.1 ∙ c.loop-fold.invariant.three in
    rw (
      c.loop-fold.invariant.rest,
      cover_next _ _ _ step.1.0 three c.args.row,
      ← c.fold_hides.ensures,
      c.if-fold_hides.true,
    )

pub loop-fold-preserved : goal.loop-fold-preserved
loop-fold-preserved c =
    let step = c.in-Some.ensures.steps in
    let three = step.1.1 ∙ c.loop-fold.invariant.three in
    record {
      three = step.0 ∙ c.loop-fold.invariant.three;
      rest = c.loop-fold.invariant.rest ∙ rw (
        cover_next _ _ _ step.1.0 three c.args.row,
        ← c.fold_hides.ensures,
        c.if-fold_hides.false,
      );
    }

pub returns : goal.returns
returns c =
    sym (c.loop-fold.invariant.rest
    ∙ cover_few c.loop-fold.fold-iterator.rest.now c.args.row (omega (arith, c.in-None.ensures.steps, c.loop-fold.invariant.three)))
