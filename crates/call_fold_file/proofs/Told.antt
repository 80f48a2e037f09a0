-- What the calls on fold files reply, by each answer of the writer and of the reader. Assumes nothing.
use Rattle.lists.proofs.Kit.{◌≡◌, List, ℕ, length}
use Rattle.fold_writer.specs.declared.Written.TheVariants.{Bytes, Refused}
use Rattle.fold_writer.specs.Writing.{written}
use Rattle.fold_reader.specs.declared.Loaded.TheVariants.{Folds, Refused as Loaded-as-Refused}
use Rattle.fold_reader.specs.Reading.{loaded}
use Rattle.call_bytes.specs.Reply.{Replied, told}
use Rattle.call_bytes.specs.declared.Told.TheVariants.{Value, Refused as Told-as-Refused}
use Rattle.call_fold_file.specs.FoldFiles.{told_written, writes, told_loaded, reads}

module _ (t folds file : List ℕ) {out out' : List ℕ} {r : ℕ} where
  pub write_bytes : (n : ℕ) → written t folds (length file) ≡ Bytes n → Replied (told (Value n)) out r out' → Replied (writes t folds file) out r out'
  unfolding told_written
  write_bytes n e p = rw e p

  pub write_refused :
      (f : ℕ) → written t folds (length file) ≡ Refused f → Replied (told (Told-as-Refused f)) out r out' → Replied (writes t folds file) out r out'
  unfolding told_written
  write_refused f e p = rw e p

module _ (t f folds : List ℕ) {out out' : List ℕ} {r : ℕ} where
  pub read_folds : (n : ℕ) → loaded t f (length folds) ≡ Folds n → Replied (told (Value n)) out r out' → Replied (reads t f folds) out r out'
  unfolding told_loaded
  read_folds n e p = rw e p

  pub read_refused : (n : ℕ) → loaded t f (length folds) ≡ Loaded-as-Refused n → Replied (told (Told-as-Refused n)) out r out' → Replied (reads t f folds) out r out'
  unfolding told_loaded
  read_refused n e p = rw e p
