-- The first closed fold that hides a row, by which the code goes past whole folds.
-- Definitions only; that it says what `hidden` says is a law of `proofs/Hiding.antt`. Assumes nothing.
use Rattle.std.specs.Prelude.{ℕ, List, [], ◌∷◌, cond, Option, Some, None}
use Rattle.folds.specs.Folds.{fold_hides}

-- where it starts and ends
unfoldable pub cover_of : List ℕ → ℕ → Option (ℕ × ℕ)
cover_of [] row = None
cover_of (s ∷ []) row = None
cover_of (s ∷ e ∷ []) row = None
cover_of (s ∷ e ∷ closed ∷ folds) row = cond (fold_hides row s e closed) (Some (s, e)) (cover_of folds row)
