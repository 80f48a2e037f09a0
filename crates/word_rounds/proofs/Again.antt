-- A jump out of a closed fold leads to where it leads again, by the fold at its own first row and last row. Assumes nothing.
use Rattle.lists.proofs.Kit.{◌≡◌, refl, List, ℕ, Option, Some, None}
use Rattle.text.specs.Text.{row_count, content_rows}
use Rattle.text.specs.declared.Position.{Position}
use Rattle.folds.specs.Folds.{fold_refusal, closed_fold_at}
use Rattle.text.proofs.Content.{content_near}
use Rattle.folds.proofs.Past.{folds_good}
use Rattle.word_rounds.specs.Rounds.{to_last, to_first, fold_at, jump_fwd, jump_back}
use Rattle.word_rounds.proofs.Own.{span_own}

-- a jump from where a jump led to leads nowhere else
module _ (t folds : List ℕ) (good : fold_refusal folds (row_count t) ≡ 0) (p : Position) where
  own : (a b : ℕ) → fold_at t folds p ≡ Some (a, b) →
      (closed_fold_at folds (row_count t) (content_rows t) a ≡ Some (a, b)) × (closed_fold_at folds (row_count t) (content_rows t) b ≡ Some (a, b))
  own a b =
      let by_content_near = content_near t in
      span_own folds (row_count t) (content_rows t) (folds_good folds (row_count t) good) by_content_near.0 by_content_near.1 a b p.row

  pub jump_fwd_again : jump_fwd t folds (jump_fwd t folds p) ≡ jump_fwd t folds p
  jump_fwd_again = go (fold_at t folds p) refl
    where
      go : (s : Option (ℕ × ℕ)) → fold_at t folds p ≡ s → to_last t (to_last t p s) (fold_at t folds (to_last t p s)) ≡ to_last t p s
      go (Some (a, b)) e = rw (own a b e).1
      go None e = rw e

  pub jump_back_again : jump_back t folds (jump_back t folds p) ≡ jump_back t folds p
  jump_back_again = go (fold_at t folds p) refl
    where
      go : (s : Option (ℕ × ℕ)) → fold_at t folds p ≡ s → to_first (to_first p s) (fold_at t folds (to_first p s)) ≡ to_first p s
      go (Some (a, b)) e = rw (own a b e).0
      go None e = rw e
