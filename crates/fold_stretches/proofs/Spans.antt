-- At a row of a stretch there is no closed fold. Assumes nothing.
use Rattle.lists.proofs.Kit.{◌≡◌, refl, List, [], true, ◌&&◌, ℕ, ◌+◌, arith, ltb, leb, ltb-true, leb-true, None}
use Rattle.lists.proofs.Both.{both}
use Rattle.folds.specs.Folds.{any_fold, closed_fold_at}
use Rattle.fold_stretches.specs.declared.Stretch.{Stretch}
use Rattle.fold_stretches.specs.Stretches.{NoFold}

module _ (rows content row : ℕ) where
  pub no_span : {folds : List ℕ} {w : Stretch} → NoFold folds w → (leb w.lo row && ltb row w.hi) ≡ true → closed_fold_at folds rows content row ≡ None
  no_span {folds} {w} b h =
      let by_both = both (leb w.lo row) (ltb row w.hi) h in
      let by_leb_true = leb-true w.lo row by_both.0 in
      let by_ltb_true = ltb-true row w.hi by_both.1 in
      rw (b.shown row by_leb_true (omega arith), b.shown (row + 1) (omega arith) (omega arith))

  -- nor is there one where there are no folds
  pub none_span : closed_fold_at [] rows content row ≡ None
  unfolding any_fold
  none_span = refl
