-- What the functions of `src/` require: what is read is there, and there is room for it. Definitions only. Assumes nothing.
use Rattle.std.specs.Prelude.{ℕ, ◌+◌, ◌*◌, ◌≤◌, ◌≡◌, List, false, length}
use Rattle.fold_blocks.specs.Listed.{folds_in}
use Rattle.fold_blocks.specs.Layout.{is_broken}

-- an entry of a block from an index on, and room for its three numbers
pub record EntryRoom (block : List ℕ) (from : ℕ) (out : List ℕ) (at : ℕ) : Type 0 where
  pub there : from + 9 ≤ length block
  pub room : at + 3 ≤ length out

-- so many entries of a block, behind its number and their count
pub record EntriesRoom (block : List ℕ) (count : ℕ) (out : List ℕ) (at : ℕ) : Type 0 where
  pub there : 4 + 9 * count ≤ length block
  pub room : at + 3 * count ≤ length out

-- a file whose layout is as it must be, and room for its folds
pub record FileRoom (file out : List ℕ) : Type 0 where
  pub unbroken : is_broken file ≡ false
  pub room : length (folds_in file) ≤ length out

-- a block, and its place in the file
pub record BlockAt (block : List ℕ) (k : ℕ) : Type 0 where
  pub size : length block ≡ 512
  pub few : k ≤ 5
