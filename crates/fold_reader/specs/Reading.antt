-- What reading a fold file answers and leaves: 1 to 3 of the text, 18 to 20 of the file, 5 of its folds over the text, 14 of the room. Document 02, #111.
-- Definitions only; the laws are in `proofs/Reads.antt`. Assumes nothing.
use Rattle.std.specs.Prelude.{◌≡◌, ℕ, List, [], ◌∷◌, ◌++◌, cond, eqb, length, drop}
use Rattle.text_check.specs.Accept.{text_refusal}
use Rattle.text.specs.Text.{row_count}
use Rattle.positions.specs.Positions.{lowest as first_of}
use Rattle.folds.specs.Folds.{fold_refusal}
use Rattle.fold_blocks.specs.Files.{count_in}
use Rattle.fold_blocks.specs.Listed.{folds_in}
use Rattle.fold_blocks.specs.Layout.{layout_refusal, room_refusal}
use Rattle.fold_reader.specs.declared.Loaded.{Loaded}
use Rattle.fold_reader.specs.declared.Loaded.TheVariants.{Folds, Refused}

-- the number that it refuses with, 0 where the folds are read: the first of these that isn't 0
unfoldable pub read_refusal : List ℕ → List ℕ → ℕ → ℕ
read_refusal t f room =
    first_of (text_refusal t ∷ layout_refusal f ∷ fold_refusal (folds_in f) (row_count t) ∷ room_refusal (length (folds_in f)) room ∷ [])

-- how many folds were read, or that number
unfoldable pub loaded : List ℕ → List ℕ → ℕ → Loaded
loaded t f room = let n = read_refusal t f room in cond (eqb n 0) (Folds (count_in (folds_in f))) (Refused n)

-- what is left in the room: the folds at its start, or what it held
unfoldable pub loaded_in : List ℕ → List ℕ → List ℕ → List ℕ
loaded_in t f folds = cond (eqb (read_refusal t f (length folds)) 0) (folds_in f ++ drop (length (folds_in f)) folds) folds

-- r is the answer, and what the room holds then
pub record LoadsTo (t f folds : List ℕ) (r : Loaded) (folds' : List ℕ) : Type 0 where
  pub answer : r ≡ loaded t f (length folds)
  pub left : folds' ≡ loaded_in t f folds
