-- The replies of calls on fold files: number and value of each answer of the writer and of the reader. Cited by `call_fold_file` and `exports`.
-- Definitions only. Assumes nothing.
use Rattle.std.specs.Prelude.{ℕ, List, [], ◌∷◌, length}
use Rattle.fold_writer.specs.declared.Written.{Written}
use Rattle.fold_writer.specs.declared.Written.TheVariants.{Bytes, Refused}
use Rattle.fold_writer.specs.Writing.{written}
use Rattle.fold_reader.specs.declared.Loaded.{Loaded}
use Rattle.fold_reader.specs.declared.Loaded.TheVariants.{Folds, Refused as Loaded-as-Refused}
use Rattle.fold_reader.specs.Reading.{loaded}
use Rattle.call_bytes.specs.Reply.{Reply, answer, refused}

-- how many bytes, or the number
unfoldable pub told_written : Written → Reply
told_written (Bytes n) = answer (n ∷ [])
told_written (Refused f) = refused f

abbrev pub writes : List ℕ → List ℕ → List ℕ → Reply
writes t folds file = told_written (written t folds (length file))

-- how many folds, or the number
unfoldable pub told_loaded : Loaded → Reply
told_loaded (Folds n) = answer (n ∷ [])
told_loaded (Loaded-as-Refused f) = refused f

abbrev pub reads : List ℕ → List ℕ → List ℕ → Reply
reads t f folds = told_loaded (loaded t f (length folds))
