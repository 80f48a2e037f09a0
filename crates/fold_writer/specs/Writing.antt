-- What writing a fold file answers and leaves: 1 to 3 of the text, 5 of the folds, 14 of the room. Document 02, #111.
-- Definitions only; the laws are in `proofs/Writes.antt`. Assumes nothing.
use Rattle.std.specs.Prelude.{ℕ, ◌+◌, ◌≤◌, ◌<◌, ◌≡◌, List, [], ◌∷◌, ◌++◌, cond, eqb, length, drop}
use Rattle.text_check.specs.Accept.{text_refusal}
use Rattle.text.specs.Text.{row_count}
use Rattle.positions.specs.Positions.{lowest as first_of}
use Rattle.folds.specs.Folds.{fold_refusal}
use Rattle.fold_blocks.specs.Files.{count_in, file_of}
use Rattle.fold_blocks.specs.Layout.{room_refusal}
use Rattle.fold_writer.specs.declared.Written.{Written}
use Rattle.fold_writer.specs.declared.Written.TheVariants.{Bytes, Refused}

-- the number that it refuses with, 0 where the file is written: the first of these that isn't 0
unfoldable pub write_refusal : List ℕ → List ℕ → ℕ → ℕ
write_refusal t folds room =
    first_of (text_refusal t ∷ fold_refusal folds (row_count t) ∷ room_refusal (length (file_of folds)) room ∷ [])

-- how many bytes were written, or that number
unfoldable pub written : List ℕ → List ℕ → ℕ → Written
written t folds room = let f = write_refusal t folds room in cond (eqb f 0) (Bytes (length (file_of folds))) (Refused f)

-- what is left in the room: the file at its start, or what it held
unfoldable pub written_in : List ℕ → List ℕ → List ℕ → List ℕ
written_in t folds file =
    cond (eqb (write_refusal t folds (length file)) 0) (file_of folds ++ drop (length (file_of folds)) file) file

-- r is the answer, and what the room holds then
pub record WritesTo (t folds file : List ℕ) (r : Written) (file' : List ℕ) : Type 0 where
  pub answer : r ≡ written t folds (length file)
  pub left : file' ≡ written_in t folds file

-- the folds of one block, and room for its first n bytes from an index on
pub record PartRoom (folds : List ℕ) (n at : ℕ) (out : List ℕ) : Type 0 where
  pub few : length folds ≤ 168
  pub room : at + n ≤ length out

-- the folds of a file, and room for all of it
pub record FileRoom (folds out : List ℕ) : Type 0 where
  pub few : count_in folds ≤ 256
  pub room : length (file_of folds) ≤ length out

-- r is where the folds of a block end that begin at an index: 56 of them, or as far as they go
pub record Ends (from len r : ℕ) : Type 0 where
  pub after : from ≤ r
  pub within : r ≤ len
  pub most : r ≤ from + 168
  pub all : r < from + 168 → r ≡ len
