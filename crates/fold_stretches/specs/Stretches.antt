-- Stretches of rows at which there is no closed fold, by which the rounds of a count ask the folds only now and then.
-- Definitions only; the laws are in `proofs/Asunder.antt`. Assumes nothing.
use Rattle.std.specs.Prelude.{ℕ, ◌≤◌, ◌≡◌, List, false}
use Rattle.folds.specs.Folds.{fold_hides, hidden}
use Rattle.fold_stretches.specs.declared.Stretch.{Stretch}

-- r is in w, and a fold hides no row of it, nor the one behind it
pub record Apart (w : Stretch) (s e closed : ℕ) (r : Stretch) : Type 0 where
  pub low : w.lo ≤ r.lo
  pub high : r.hi ≤ w.hi
  pub shown : (row : ℕ) → r.lo ≤ row → row ≤ r.hi → fold_hides row s e closed ≡ false

-- no fold hides a row of the stretch, nor the one behind it: there is no closed fold at a row of it
pub record NoFold (folds : List ℕ) (w : Stretch) : Type 0 where
  pub shown : (row : ℕ) → w.lo ≤ row → row ≤ w.hi → hidden folds row ≡ false
