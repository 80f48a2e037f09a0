-- What the walks over visible rows require: folds that are accepted, and a row of the text.
-- Definitions only. Assumes nothing.
use Rattle.std.specs.Prelude.{ℕ, ◌≤◌, ◌<◌, ◌≡◌, List, Bool, ℤ, neg_ℤ}
use Rattle.std.specs.Int.{w64}
use Rattle.std.proofs.Common.{SFits}
use Rattle.folds.specs.Folds.{fold_refusal}
use Rattle.visible_rows.specs.Visible.{Free}

pub record RowReady (folds : List ℕ) (rows row : ℕ) : Type 0 where
  pub folds_good : fold_refusal folds rows ≡ 0
  pub in_rows : row < rows

-- the same with as many rows as a text has at most
pub record WalkReady (folds : List ℕ) (rows row : ℕ) : Type 0 where
  pub row_good : RowReady folds rows row
  pub few : rows ≤ 1048577

-- and with so many rows next that no fold hides, or with a delta whose negative fits in 64 bits
pub record HopReady (folds : List ℕ) (rows : ℕ) (down : Bool) (row free : ℕ) : Type 0 where
  pub walk : WalkReady folds rows row
  pub clear : Free folds rows down row free

pub record DeltaReady (folds : List ℕ) (rows row : ℕ) (delta : ℤ) : Type 0 where
  pub walk : WalkReady folds rows row
  pub turns : SFits w64 (neg_ℤ delta)
