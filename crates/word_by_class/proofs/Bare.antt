-- A round at a row of a stretch without closed folds. Assumes nothing.
use Rattle.lists.proofs.Kit.{◌≡◌, refl, List, [], Bool, true, ◌&&◌, ℕ, ltb, leb, None}
use Rattle.folds.specs.Folds.{any_fold, fold_refusal}
use Rattle.fold_stretches.specs.declared.Stretch.{Stretch}
use Rattle.fold_stretches.specs.Stretches.{NoFold}
use Rattle.fold_stretches.proofs.Spans.{no_span, none_span}
use Rattle.word_kinds.specs.declared.Spot.{Spot}
use Rattle.word_rounds.specs.declared.Motion.{Motion}
use Rattle.word_rounds.specs.declared.Motion.TheVariants.{Fwd, Back, End, EndBack}
use Rattle.word_class_rows.specs.Rows.{row_of, rows_of, content_of}
use Rattle.word_by_class.specs.Rounds.{fold_at, round_of, Ready}

module _ (c folds : List ℕ) {w : Stretch} (b : NoFold folds w) (i row : ℕ) (e : row ≡ row_of c i)
    (h : (leb w.lo row && ltb row w.hi) ≡ true) where
  gone : fold_at c folds i ≡ None
  gone = rw (← e) (no_span (rows_of c) (content_of c) row b h)

  none : fold_at c [] i ≡ None
  none = none_span (rows_of c) (content_of c) (row_of c i)

  pub round_bare : (big : Bool) (m : Motion) (stop : Bool) → round_of c [] big m stop i ≡ round_of c folds big m stop i
  unfolding round_of
  round_bare big Fwd stop = rw (gone, none)
  round_bare big Back stop = rw (gone, none)
  round_bare big End stop = rw (gone, none)
  round_bare big EndBack stop = refl

-- what a round without folds requires
pub ready_bare : {c folds : List ℕ} {rows content : ℕ} {p : Spot} → Ready c folds rows content p → Ready c [] rows content p
unfolding fold_refusal any_fold
ready_bare z =
    record {
      classes = z.classes;
      good = refl;
      all_rows = z.all_rows;
      content_rows = z.content_rows;
      stands = z.stands;
      inside = z.inside;
    }
